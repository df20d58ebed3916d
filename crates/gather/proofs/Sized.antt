-- The sizes of what bytes give, as the code finds them: by the kind of what stands first.
-- Assumes nothing.
use mathlib.Core.Path.{◌≡◌, refl, sym, ◌∙◌, ap}
use mathlib.Core.List.{List, [], ◌++◌, append-nil}
use Prim.Native.Nat.{ℕ, suc, ◌+◌}
use native.Mathlib.Nat.{add-zero, add_assoc}
use native.Mathlib.Omega.{arith}
use lib.ListN.{length, take, drop, length-append}
use lib.Seq.{length-take-le, drop-drop}
use Rattle.ground.proofs.Part.{front_size}
use Rattle.gather.specs.declared.kind.Kind.{Kind}
use Rattle.gather.specs.declared.kind.Kind.TheVariants.{Nothing, Part, Overlong, Whole}
use Rattle.gather.specs.declared.measure.Sizes.{Sizes}
use Rattle.gather.specs.Kind.{classify, join}
use Rattle.gather.specs.Rule.{Yield, unfinished, nothing, first, walk, add, begun_in}
use Rattle.gather.specs.Steps.{sizes_as, sizes_of}
use Rattle.gather.proofs.Classes.{whole_fits, part_some}
use Rattle.gather.proofs.Walk.{rest_after, walk_kind}
use Rattle.gather.proofs.Adding.{add_none, add_kind}
use Rattle.gather.proofs.Begun.{sections_in, begun_is}

-- ---- bytes added to held ones
-- the sizes of what so many bytes, the held ones and the new ones after them, give by their kind
abbrev pub sizes_by : Kind → ℕ → Sizes
sizes_by Nothing n = sizes_as 0 0 0 0 0
sizes_by Part n = sizes_as 0 0 n 0 0
sizes_by Overlong n = sizes_as 0 0 0 1 0
sizes_by (Whole k) n = sizes_as 1 k 0 0 0

module _ (held new : List ℕ) where
  pub sizes_none : length held ≡ 0 → sizes_as 0 0 0 0 0 ≡ sizes_of 0 (add held new)
  sizes_none e = ap (sizes_of 0) (sym (add_none held new e))

  pub sizes_added : (length held ≡ 0 → ⊥) → (k : Kind) → k ≡ classify (held ++ new) → sizes_by k (length held + length new) ≡ sizes_of 0 (add held new)
  sizes_added some k e = go k e ∙ ap (sizes_of 0) (sym (add_kind held new k (omega arith) (sym e)))
    where
      go : (k : Kind) → k ≡ classify (held ++ new) → sizes_by k (length held + length new) ≡ sizes_of 0 (first k (held ++ new) nothing)
      go Nothing e = refl
      go Part e = ap (λ (n : ℕ). sizes_as 0 0 n 0 0) (sym (length-append held new))
      go Overlong e = refl
      go (Whole k) e =
          let w = whole_fits (held ++ new) k (sym e) in
          let cut = take k (held ++ new) in
          let size : length (cut ++ []) ≡ k = ap length (append-nil cut) ∙ length-take-le k (held ++ new) w.within in
          ap (λ (m : ℕ). sizes_as 1 m 0 0 0) (sym size)

-- ---- section after section
-- the sizes of what bytes give, section after section
abbrev pub walked : List ℕ → Sizes
walked s = sizes_of (begun_in s) (walk s)

-- sizes that grew by some sections and their bytes
abbrev pub grown : ℕ → ℕ → Sizes → Sizes
grown n b z = sizes_as (n + z.sections) (b + z.bytes) z.held z.given_up (n + z.begun)

module _ (s : List ℕ) (n b : ℕ) where
  -- where no whole section stands the walk ends
  ends : (k : Kind) → classify s ≡ k → let y = first k s (walk (rest_after k s)) in grown n b (walked s) ≡ grown n b (sizes_of (sections_in y) y)
  ends k e = ap (λ (m : ℕ). grown n b (sizes_of m (walk s))) (begun_is s) ∙ ap (λ (y : Yield). grown n b (sizes_of (sections_in y) y)) (walk_kind s k e)

  pub ends_nothing : classify s ≡ Nothing → grown n b (walked s) ≡ sizes_as n b 0 0 n
  ends_nothing e = rw (ends Nothing e, add-zero n, add-zero b)

  pub ends_part : classify s ≡ Part → grown n b (walked s) ≡ sizes_as n b (length s) 0 (n + 1)
  ends_part e = rw (ends Part e, part_some s e, add-zero n, add-zero b)

  pub ends_overlong : classify s ≡ Overlong → grown n b (walked s) ≡ sizes_as n b 0 1 (n + 1)
  ends_overlong e = rw (ends Overlong e, add-zero n, add-zero b)

-- a whole section makes the sizes grow by one section and its bytes
pub grows : (l : List ℕ) (at k n b : ℕ) → classify (drop at l) ≡ Whole k
    → grown n b (walked (drop at l)) ≡ grown (n + 1) (b + k) (walked (drop (at + k) l))
grows l at k n b e =
    let w = whole_fits (drop at l) k e in
    let y = walk (drop (at + k) l) in
    let size : length (take k (drop at l) ++ join y.sections) ≡ k + length (join y.sections) = front_size k (drop at l) (join y.sections) w.within in
    let p : n + suc (length y.sections) ≡ n + 1 + length y.sections = omega arith in
    let q : n + (suc (length y.sections) + y.given_up + unfinished y.held) ≡ n + 1 + sections_in y = omega arith in
    rw (ends (drop at l) n b (Whole k) e, drop-drop k at l, size, p, q, begun_is (drop (at + k) l), ← add_assoc b k (length (join y.sections)))
