-- Document 01, "Examples": the ★ cases about areas, and about pointers that leave no byte.
use Rattle.std.specs.Prelude.{◌≡◌, true, false, List, [], ◌∷◌, ◌++◌, ℕ, ◌≤◌, ◌<◌, length, set, replicate}
use Rattle.ground.specs.House.{store_bytes, last_number, least_output, least_list, last_filter_pid}
use Rattle.ground.specs.Answer.{Answer, refused, given}
use Rattle.ground.specs.Walk.{all}
use Rattle.ground.specs.Write.{put}
use Rattle.gather.specs.Memory.{marks_as}
use Rattle.state.specs.State.{fresh, is_used, free_place_of}
use Rattle.state.specs.Choice.{sound_choice}
use Rattle.state.specs.declared.Choice.{Choice}
use Rattle.state.specs.declared.Choice.TheVariants.{All}
use Rattle.state.specs.declared.State.{State}
use Rattle.sound.specs.Sound.{sound}
use Rattle.open_call.specs.Open.{Place, has_area, open_of}
use Rattle.packet_call.specs.Packet.{packet_of, as_given}

pub data Case : Type 0 where
  -- after opens on these PIDs, one after the other, an open on this one answers so
  open_after : List ℕ → ℕ → Answer Place → Case
  -- in every state that nothing else refuses, with all areas taken, a PID without an area is refused 15 and one that has an area isn't
  eight_taken : Case
  -- with PID 0 open this packet is refused with this number
  packet_refused : List ℕ → ℕ → Case
  -- with PID 0 open a packet with unit start, pointer 182 and last byte 0x80 leaves that byte held, whichever the bytes between them are
  last_byte_held : Case

-- the state after opens on these PIDs, each of all tables
abbrev pub open_all : State → List ℕ → State
open_all s [] = s
open_all s (pid ∷ pids) = open_all (open_of s pid All).state pids

-- one filter, on PID 0
abbrev pub zero_open : State
zero_open = open_all fresh (0 ∷ [])

-- what a case claims; a packet's for every store, output and list of the right size
abbrev pub Right : Case → Type 0
Right (open_after pids pid answer) = (open_of (open_all fresh pids) pid All).answer ≡ answer
Right eight_taken =
    (s : State) (pid : ℕ) (choice : Choice) → sound s ≡ true → all is_used s.areas ≡ true → pid ≤ last_filter_pid → sound_choice choice ≡ true → s.next ≤ last_number → free_place_of s.filters < length s.filters
    → (has_area pid s.areas ≡ false → (open_of s pid choice).answer ≡ refused 15)
    × (has_area pid s.areas ≡ true → (open_of s pid choice).answer ≡ given (record { number = s.next; place = free_place_of s.filters }))
Right (packet_refused bytes n) =
    (store out sets : List ℕ) → length store ≡ store_bytes → least_output ≤ length out → least_list ≤ length sets
    → packet_of zero_open bytes store out sets ≡ as_given zero_open store out sets (refused n)
Right last_byte_held =
    (bytes store out sets : List ℕ) → length bytes ≡ 182 → length store ≡ store_bytes → least_output ≤ length out → least_list ≤ length sets
    → packet_of zero_open (0x47 ∷ 0x40 ∷ 0x00 ∷ 0x10 ∷ 182 ∷ (bytes ++ 0x80 ∷ [])) store out sets
    ≡ record {
      answer = given (record { wanted = true; sections = 0; bytes = 0; jump = false; repeat = false; given_up = 0; begun = 1 });
      state =
          record {
            areas = set zero_open.areas 0 (record { pid = record { 0 = 0 }; users = 1; marks = marks_as 1 1 0 0 });
            filters = zero_open.filters;
            choices = zero_open.choices;
            next = zero_open.next;
          };
      store = put store 0 (0x80 ∷ []);
      out = out;
      sets = sets;
    }

-- eight PIDs
abbrev pub eight : List ℕ
eight = 0 ∷ 1 ∷ 2 ∷ 3 ∷ 4 ∷ 5 ∷ 6 ∷ 7 ∷ []

-- "eight PIDs held: a ninth is refused 15, a second filter on a held one isn't"; "control 11, length 182, unit start: refusal 11"; "control 01, pointer 183: refusal 11"; "pointer 182, last byte 0x80: one byte held"
abbrev pub cases : List Case
cases =
    open_after eight 8 (refused 15)
    ∷ open_after eight 3 (given (record { number = 9; place = 8 }))
    ∷ eight_taken
    ∷ packet_refused (0x47 ∷ 0x40 ∷ 0x00 ∷ 0x30 ∷ 182 ∷ 0x00 ∷ replicate 182 0xFF) 11
    ∷ packet_refused (0x47 ∷ 0x40 ∷ 0x00 ∷ 0x10 ∷ 183 ∷ replicate 183 0x00) 11
    ∷ last_byte_held
    ∷ []
