-- Document 01, "Examples": the listing program's input, from packet to packet and from read to read, and the lines that it prints.
use Rattle.std.specs.Prelude.{ℕ, zero, suc, ◌+◌, ◌*◌, ◌/◌, ◌%◌, ◌^◌, Bool, true, false, cond, List, [], ◌++◌, length, take, drop, nat_lt}
use Rattle.ground.specs.House.{packet_bytes}
use Rattle.packet_call.specs.Packet.{pid_of, packet_of}
use Rattle.state.specs.declared.State.{State}
use Rattle.lines.specs.Lines.{lines_of}

-- what goes on from packet to packet: the driver's state, the next packet's index, the store, the output and the list of sets, and the names of their loans
pub record Work : Type 0 where
  pub state : State
  pub index : ℕ
  pub store : List ℕ
  pub out : List ℕ
  pub sets : List ℕ
  pub loans : List ℕ

-- "packet index": one more, in 64 bits; no input has so many packets that it begins again
abbrev pub next_index : ℕ → ℕ
next_index i = (i + 1) % 2 ^ 64

-- the work after a packet call
abbrev pub after_call : Work → List ℕ → Work
after_call w p =
    let a = packet_of w.state p w.store w.out w.sets in
    record { state = a.state; index = next_index w.index; store = a.store; out = a.out; sets = a.sets; loans = w.loans }

-- the lines of that packet
abbrev pub next_lines : Work → List ℕ → List ℕ
next_lines w p = let a = packet_of w.state p w.store w.out w.sets in lines_of w.index (pid_of p) a.answer a.out

-- the work after n packet calls, on the packets that these bytes start with
abbrev pub after_calls : ℕ → Work → List ℕ → Work
after_calls zero w bytes = w
after_calls (suc n) w bytes = after_calls n (after_call w (take packet_bytes bytes)) (drop packet_bytes bytes)

-- the lines of these n packets, in their order
abbrev pub printed : ℕ → Work → List ℕ → List ℕ
printed zero w bytes = []
printed (suc n) w bytes = next_lines w (take packet_bytes bytes) ++ printed n (after_call w (take packet_bytes bytes)) (drop packet_bytes bytes)

-- ---- from read to read
-- between two reads: the work, and the first bytes of a packet whose others were not read yet
pub record Between : Type 0 where
  pub work : Work
  pub kept : List ℕ

-- how many whole packets these bytes begin with
abbrev pub whole_in : List ℕ → ℕ
whole_in bytes = length bytes / packet_bytes

-- after more bytes were read: the driver was called once for each whole packet of the kept bytes and these behind them, and what is left is kept
abbrev pub after_read : Between → List ℕ → Between
after_read b bytes =
    let all = b.kept ++ bytes in
    record { work = after_calls (whole_in all) b.work all; kept = drop (whole_in all * packet_bytes) all }

-- the lines of these packets
abbrev pub lines_read : Between → List ℕ → List ℕ
lines_read b bytes = let all = b.kept ++ bytes in printed (whole_in all) b.work all

-- whether bytes of a packet are left
abbrev pub is_cut : Between → Bool
is_cut b = nat_lt 0 (length b.kept)

-- after the end of the input: bytes that are no whole packet were called as they are
abbrev pub after_end : Between → Between
after_end b = record { work = cond (is_cut b) (after_call b.work b.kept) b.work; kept = [] }

-- their lines
abbrev pub lines_end : Between → List ℕ
lines_end b = cond (is_cut b) (next_lines b.work b.kept) []

-- what a read brings: more bytes, the end of the input, or an error
pub data Reading : Type 0 where
  more : List ℕ → Reading
  ended : Reading
  failed : Reading

-- a turn of the loop: what is between this read and the next, the lines to print, and whether to read on
pub record Turn : Type 0 where
  pub between : Between
  pub lines : List ℕ
  pub is_on : Bool

-- the turn that a read makes; an error leaves all as it was
abbrev pub turn_of : Between → Reading → Turn
turn_of b (more bytes) = record { between = after_read b bytes; lines = lines_read b bytes; is_on = true }
turn_of b ended = record { between = after_end b; lines = lines_end b; is_on = false }
turn_of b failed = record { between = b; lines = []; is_on = false }
