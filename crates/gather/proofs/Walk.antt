-- Section follows section: one equation by the kind of the first, and one induction.
-- Assumes nothing.
use mathlib.Core.Path.{◌≡◌, refl, ◌∙◌, ap}
use mathlib.Core.Bool.{false}
use mathlib.Core.List.{List, [], ◌∷◌, ◌++◌, append-nil}
use Prim.Native.Nat.{ℕ, ◌+◌, ◌*◌, ◌≤◌, ◌<◌}
use native.Mathlib.Omega.{arith}
use lib.ListN.{length, take, drop, length-drop, length-append}
use lib.Seq.{drop-drop, length-take-le, take-length, take-add}
use Rattle.ground.specs.Items.{Step, onward, items}
use Rattle.ground.specs.Walk.{Every}
use Rattle.ground.proofs.Items.{items_end, items_ind, on_items}
use Rattle.ground.proofs.Part.{front_size}
use Rattle.gather.specs.declared.kind.Kind.{Kind}
use Rattle.gather.specs.declared.kind.Kind.TheVariants.{Nothing, Part, Overlong, Whole}
use Rattle.gather.specs.Kind.{classify, contradicting, join}
use Rattle.gather.specs.Rule.{Yield, nothing, unfinished, ◌then◌, first_section, first, walk}
use Rattle.gather.specs.Claims.{IsWhole}
use Rattle.gather.proofs.Classes.{kind_empty, whole_fits, whole_again, part_some, part_holds}

-- what holds of some bytes and what they give, by the kind of the first: one rule a kind
pub record Turns (P : List ℕ → Yield → Type 0) : Type 0 where
  pub at_nothing : (s : List ℕ) → classify s ≡ Nothing → P s nothing
  pub at_part : (s : List ℕ) → classify s ≡ Part → P s (record { sections = []; held = s; given_up = 0 })
  pub at_overlong : (s : List ℕ) → classify s ≡ Overlong → P s (record { sections = []; held = []; given_up = 1 })
  pub at_whole : (s : List ℕ) (n : ℕ) (y : Yield) → classify s ≡ Whole n → P (drop n s) y → P s (take n s then y)

-- the bytes after a whole section
abbrev pub rest_after : Kind → List ℕ → List ℕ
rest_after Nothing s = []
rest_after Part s = []
rest_after Overlong s = []
rest_after (Whole n) s = drop n s

abbrev step : List ℕ → Step (List ℕ) Yield
step s = first_section (classify s) s

-- the induction over a walk
pub walk_ind : (P : List ℕ → Yield → Type 0) → Turns P → (s : List ℕ) → P s (walk s)
unfolding walk
walk_ind P t s = items_ind ◌then◌ (λ at. step) nothing (λ at s y. P s y) (λ at. t.at_nothing [] kind_empty) (λ at s rest h later. turn s rest (classify s) refl later) 0 s
  where
    turn : (s : List ℕ) (rest : ℕ → Yield) (k : Kind) → classify s ≡ k → ((n : ℕ) → 0 < n → P (drop n s) (rest n)) → P s (onward ◌then◌ (first_section k s) rest)
    turn s rest Nothing e later = t.at_nothing s e
    turn s rest Part e later = t.at_part s e
    turn s rest Overlong e later = t.at_overlong s e
    turn s rest (Whole n) e later = let w = whole_fits s n e in t.at_whole s n (rest n) e (later n (omega arith))

-- the walk by the kind of what stands first
pub walk_kind : (s : List ℕ) (k : Kind) → classify s ≡ k → walk s ≡ first k s (walk (rest_after k s))
unfolding walk
walk_kind [] k e = rw (← e, kind_empty) refl
walk_kind (x ∷ xs) k e = go k e
  where
    s : List ℕ
    s = x ∷ xs

    go : (k : Kind) → classify s ≡ k → items ◌then◌ step nothing s ≡ first k s (items ◌then◌ step nothing (rest_after k s))
    go Nothing e = items_end ◌then◌ (λ at. step) nothing 0 s nothing (omega arith) (ap (λ (k : Kind). first_section k s) e)
    go Part e = items_end ◌then◌ (λ at. step) nothing 0 s _ (omega arith) (ap (λ (k : Kind). first_section k s) e)
    go Overlong e = items_end ◌then◌ (λ at. step) nothing 0 s _ (omega arith) (ap (λ (k : Kind). first_section k s) e)
    go (Whole n) e = let w = whole_fits s n e in on_items ◌then◌ step nothing s n (take n s) (omega arith) (omega arith) (ap (λ (k : Kind). first_section k s) e)

-- a finished section is whole
pub whole_taken : (s : List ℕ) (n : ℕ) → classify s ≡ Whole n → IsWhole (take n s)
whole_taken s n e =
    let w = whole_fits s n e in
    let size : length (take n s) ≡ n = length-take-le n s (omega arith) in
    rw (size, ← append-nil (take n s)) (whole_again s n [] e)

-- what some bytes give is fit to be handed on: its sections are whole, what it holds does not contradict itself, and one section at most is left unfinished
pub record Fine (y : Yield) : Type 0 where
  pub whole : Every IsWhole y.sections
  pub part : contradicting y.held ≡ false
  pub one : y.given_up + unfinished y.held ≤ 1

pub none_fine : Fine nothing
none_fine = record { whole = tt; part = refl; one = omega arith }

-- one section, by its kind
pub first_fine : (s : List ℕ) (k : Kind) (rest : Yield) → classify s ≡ k → Fine rest → Fine (first k s rest)
first_fine s Nothing rest e f = none_fine
first_fine s Part rest e f =
    record { whole = tt; part = part_holds s e; one = rw (part_some s e) (omega arith) }
first_fine s Overlong rest e f = record { whole = tt; part = refl; one = omega arith }
first_fine s (Whole n) rest e f = record { whole = (whole_taken s n e, f.whole); part = f.part; one = f.one }

pub walk_fine : (s : List ℕ) → Fine (walk s)
walk_fine = walk_ind (λ s y. Fine y) (record {
  at_nothing = λ s e. first_fine s Nothing nothing e none_fine;
  at_part = λ s e. first_fine s Part nothing e none_fine;
  at_overlong = λ s e. first_fine s Overlong nothing e none_fine;
  at_whole = λ s n y e f. first_fine s (Whole n) y e f;
})

-- where the bytes are: the sections stand joined at their start, and what is held follows
pub record Split (s : List ℕ) (y : Yield) : Type 0 where
  pub joined : take (length (join y.sections)) s ≡ join y.sections
  pub rest : take (length y.held) (drop (length (join y.sections)) s) ≡ y.held
  pub fits : length (join y.sections) + length y.held ≤ length s

pub walk_split : (s : List ℕ) → Split s (walk s)
walk_split = walk_ind Split (record {
  at_nothing = λ s e. record { joined = refl; rest = refl; fits = omega arith };
  at_part = λ s e. record { joined = refl; rest = take-length s; fits = omega arith };
  at_overlong = λ s e. record { joined = refl; rest = refl; fits = omega arith };
  at_whole = whole;
})
  where
    whole : (s : List ℕ) (n : ℕ) (y : Yield) → classify s ≡ Whole n → Split (drop n s) y → Split s (take n s then y)
    whole s n y e p =
        let w = whole_fits s n e in
        let size : length (take n s ++ join y.sections) ≡ n + length (join y.sections) = front_size n s (join y.sections) w.within in
        record {
          joined = rw size (take-add n (length (join y.sections)) s ∙ ap (λ (l : List ℕ). take n s ++ l) p.joined);
          rest = rw (size, ← drop-drop (length (join y.sections)) n s) p.rest;
          fits = rw size (let f = rw length-drop at p.fits in omega (arith, w.within));
        }

-- whole sections are three bytes each at least
pub whole_count : (ss : List (List ℕ)) → Every IsWhole ss → 3 * length ss ≤ length (join ss)
whole_count [] e = omega arith
whole_count (s ∷ ss) e =
    let r = whole_count ss e.1 in
    let w = (whole_fits s (length s) e.0).least in
    rw length-append (omega arith)
