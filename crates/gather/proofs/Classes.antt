-- The kinds of bytes, both ways: what each kind says of the bytes, and which bytes are of it.
-- Assumes nothing.
use mathlib.Core.Path.{◌≡◌, refl, sym, ◌∙◌, ap}
use mathlib.Core.Bool.{Bool, true, false, cond, not, ◌&&◌, ◌||◌}
use mathlib.Core.List.{List, [], ◌∷◌, ◌++◌}
use mathlib.Core.Logic.{◌⊎◌, inl, inr, ⊎_elim}
use Prim.Native.Nat.{ℕ, ◌+◌, ◌≤◌, ◌<◌}
use native.Mathlib.Omega.{arith}
use lib.Dec.{ltb, leb, eqb}
use lib.ListN.{length, get_or, take}
use borrow.Author.Tests.{lt-ltb, le-ltb, le-leb, lt-leb, eq-eqb, ne_eqb, ltb-true, ltb-false, leb-true, eqb-true, eqb-false}
use Rattle.ground.proofs.Part.{front_at, front_size}
use Rattle.gather.specs.declared.kind.Kind.{Kind}
use Rattle.gather.specs.declared.kind.Kind.TheVariants.{Nothing, Part, Overlong, Whole}
use Rattle.gather.specs.Steps.{is_part}
use Rattle.section.specs.Section.{length_field, section_length}
use Rattle.gather.specs.Kind.{kind_of, classify, is_empty, contradicting}

-- what a kind says of the first byte, of section_length and of the size
abbrev pub Says : ℕ → ℕ → ℕ → Kind → Type 0
Says first len size Nothing = (size ≡ 0) ⊎ (first ≡ 255)
Says first len size Part = (0 < size) × (first ≡ 255 → ⊥) × (3 ≤ size → len ≤ 4093) × (3 ≤ size → size < 3 + len)
Says first len size Overlong = (3 ≤ size) × (first ≡ 255 → ⊥) × (4093 < len)
Says first len size (Whole n) = (3 + len ≤ size) × (first ≡ 255 → ⊥) × (len ≤ 4093) × (n ≡ 3 + len)

-- the same of some bytes
abbrev pub Said : List ℕ → Kind → Type 0
Said s k = Says (get_or s 0 0) (section_length s) (length s) k

module _ (first L size : ℕ) where
  says : Says first L size (kind_of first L size)
  unfolding kind_of
  says = empty (eqb size 0) refl
    where
      full : (b : Bool) → ltb size (3 + L) ≡ b → 3 ≤ size → (first ≡ 255 → ⊥) → L ≤ 4093 → Says first L size (cond b Part (Whole (3 + L)))
      full true e h f l = let g = ltb-true size (3 + L) e in (omega arith, f, (λ _. l), (λ _. g))
      full false e h f l = (ltb-false _ _ e, f, l, refl)

      over : (b : Bool) → ltb 4093 L ≡ b → 3 ≤ size → (first ≡ 255 → ⊥) → Says first L size (cond b Overlong (cond (ltb size (3 + L)) Part (Whole (3 + L))))
      over true e h f = (h, f, ltb-true _ _ e)
      over false e h f = full (ltb size (3 + L)) refl h f (ltb-false _ _ e)

      short : (b : Bool) → ltb size 3 ≡ b → (size ≡ 0 → ⊥) → (first ≡ 255 → ⊥)
          → Says first L size (cond b Part (cond (ltb 4093 L) Overlong (cond (ltb size (3 + L)) Part (Whole (3 + L)))))
      short true e z f = let g = ltb-true size 3 e in (omega arith, f, (λ h. omega arith), (λ h. omega arith))
      short false e z f = over (ltb 4093 L) refl (ltb-false _ _ e) f

      stuffed : (b : Bool) → eqb first 255 ≡ b → (size ≡ 0 → ⊥)
          → Says first L size (cond b Nothing (cond (ltb size 3) Part (cond (ltb 4093 L) Overlong (cond (ltb size (3 + L)) Part (Whole (3 + L))))))
      stuffed true e z = inr (eqb-true _ _ e)
      stuffed false e z = short (ltb size 3) refl z (eqb-false _ _ e)

      empty : (b : Bool) → eqb size 0 ≡ b
          → Says first L size (cond b Nothing (cond (eqb first 255) Nothing (cond (ltb size 3) Part (cond (ltb 4093 L) Overlong (cond (ltb size (3 + L)) Part (Whole (3 + L)))))))
      empty true e = inl (eqb-true _ _ e)
      empty false e = stuffed (eqb first 255) refl (eqb-false _ _ e)

-- what the kind of some bytes says of them
pub said : (s : List ℕ) → Said s (classify s)
unfolding classify
said s = says (get_or s 0 0) (section_length s) (length s)

pub said_of : (s : List ℕ) (k : Kind) → classify s ≡ k → Said s k
said_of s k e = rw e at (said s)

-- two kinds that say the same bytes are one
pub one_kind : (first len size : ℕ) (j k : Kind) → Says first len size j → Says first len size k → j ≡ k
one_kind first len size Nothing Nothing p q = refl
one_kind first len size Nothing Part p q = absurd (⊎_elim (λ e. omega arith) (λ e. q.1 e) p)
one_kind first len size Nothing Overlong p q = absurd (⊎_elim (λ e. omega arith) (λ e. q.1 e) p)
one_kind first len size Nothing (Whole n) p q = absurd (⊎_elim (λ e. omega arith) (λ e. q.1 e) p)
one_kind first len size Part Nothing p q = absurd (⊎_elim (λ e. omega arith) (λ e. p.1 e) q)
one_kind first len size Part Part p q = refl
one_kind first len size Part Overlong p q = let h = p.2 q.0 in absurd (omega arith)
one_kind first len size Part (Whole n) p q = let h = p.3 (omega arith) in absurd (omega arith)
one_kind first len size Overlong Nothing p q = absurd (⊎_elim (λ e. omega arith) (λ e. p.1 e) q)
one_kind first len size Overlong Part p q = let h = q.2 p.0 in absurd (omega arith)
one_kind first len size Overlong Overlong p q = refl
one_kind first len size Overlong (Whole n) p q = absurd (omega arith)
one_kind first len size (Whole m) Nothing p q = absurd (⊎_elim (λ e. omega arith) (λ e. p.1 e) q)
one_kind first len size (Whole m) Part p q = let h = q.3 (omega arith) in absurd (omega arith)
one_kind first len size (Whole m) Overlong p q = absurd (omega arith)
one_kind first len size (Whole m) (Whole n) p q = ap Whole (p.3 ∙ sym q.3)

-- bytes of which a kind says the truth are of that kind
pub kind_is : (s : List ℕ) (k : Kind) → Said s k → classify s ≡ k
kind_is s k = λ t. one_kind (get_or s 0 0) (section_length s) (length s) (classify s) k (said s) t

-- the kind of bytes whose first three and whose size are known
pub kind_by : (s : List ℕ) (f b c len size : ℕ) → f ≡ get_or s 0 0 → b ≡ get_or s 1 0 → c ≡ get_or s 2 0 → len ≡ length_field b c → size ≡ length s
    → kind_of f len size ≡ classify s
unfolding classify
kind_by s f b c len size p q r l z = rw (p, l, q, r, z)

-- no bytes are nothing
pub kind_empty : classify [] ≡ Nothing
kind_empty = kind_is [] Nothing (inl refl)

-- bytes that start like others, as far as a header goes, say the same length
pub length_is : (s t : List ℕ) (k : ℕ) → k ≤ length s → 3 ≤ k → section_length (take k s ++ t) ≡ section_length s
length_is s t k h three = rw (front_at k s t h 1 0 (omega arith), front_at k s t h 2 0 (omega arith))

-- a whole section, whatever follows it, is that whole section
pub whole_again : (s : List ℕ) (n : ℕ) (t : List ℕ) → classify s ≡ Whole n → classify (take n s ++ t) ≡ Whole n
whole_again s n t e =
    let w = said_of s (Whole n) e in
    let n≤ : n ≤ length s = omega arith in
    let len = length_is s t n n≤ (omega arith) in
    let size = front_size n s t n≤ in
    kind_is (take n s ++ t) (Whole n)
    (rw (len, size) (omega arith), rw (front_at n s t n≤ 0 0 (omega arith)) w.1, rw len w.2, rw len w.3)

-- the bytes of a section before its end are a part of it
pub part_of : (s : List ℕ) (n k : ℕ) → classify s ≡ Whole n → 0 < k → k < n → classify (take k s ++ []) ≡ Part
part_of s n k e p l =
    let w = said_of s (Whole n) e in
    let k≤ : k ≤ length s = omega arith in
    let size = front_size k s [] k≤ in
    kind_is (take k s ++ []) Part (
      rw size (omega arith),
      rw (front_at k s [] k≤ 0 0 p) w.1,
      (λ h. let g = rw size at h in rw (length_is s [] k k≤ (omega arith)) w.2),
      (λ h. let g = rw size at h in rw (size, length_is s [] k k≤ (omega arith)) (omega arith)),
    )

-- the size of a whole section
pub record WholeFits (s : List ℕ) (n : ℕ) : Type 0 where
  pub least : 3 ≤ n
  pub most : n ≤ 4096
  pub within : n ≤ length s
  pub says : n ≡ 3 + section_length s

pub whole_fits : (s : List ℕ) (n : ℕ) → classify s ≡ Whole n → WholeFits s n
whole_fits s n e =
    let w = said_of s (Whole n) e in
    record { least = omega arith; most = omega arith; within = omega arith; says = w.3 }

-- a part of a section is 1 to 4,095 bytes
pub part_fits : (s : List ℕ) → classify s ≡ Part → (0 < length s) × (length s ≤ 4095)
part_fits s e = let w = said_of s Part e in (w.0, room (length s) (section_length s) w.2 w.3)
  where
    room : (size len : ℕ) → (3 ≤ size → len ≤ 4093) → (3 ≤ size → size < 3 + len) → size ≤ 4095
    room size len p q = go (ltb size 3) refl
      where
        go : (b : Bool) → ltb size 3 ≡ b → size ≤ 4095
        go true e = let h = ltb-true size 3 e in omega arith
        go false e = let h = ltb-false size 3 e in let a = p h in let b = q h in omega arith

-- so it is not empty
pub part_some : (s : List ℕ) → classify s ≡ Part → is_empty s ≡ false
part_some s e = let some = (part_fits s e).0 in ne_eqb (length s) 0 (λ z. omega arith)

-- of one that is too long three bytes are there at least
pub overlong_fits : (s : List ℕ) → classify s ≡ Overlong → 3 ≤ length s
overlong_fits s e = (said_of s Overlong e).0

-- refusal 9 by kinds: bytes are held, and they are no part of a section
pub contradicting_kind : (held : List ℕ) → contradicting held ≡ (not (is_empty held) && not (is_part (classify held)))
contradicting_kind [] = refl
contradicting_kind (x ∷ xs) =
    rw (ne_eqb (length (x ∷ xs)) 0 (λ e. omega arith)) (go (classify (x ∷ xs)) (said (x ∷ xs)))
  where
    full : (b : Bool) → leb 3 (length (x ∷ xs)) ≡ b → (3 ≤ length (x ∷ xs) → section_length (x ∷ xs) ≤ 4093) → (3 ≤ length (x ∷ xs) → length (x ∷ xs) < 3 + section_length (x ∷ xs))
        → (b && (ltb 4093 (section_length (x ∷ xs)) || leb (3 + section_length (x ∷ xs)) (length (x ∷ xs)))) ≡ false
    full true e p q =
        let h = leb-true 3 (length (x ∷ xs)) e in
        rw (le-ltb 4093 (section_length (x ∷ xs)) (p h), lt-leb (3 + section_length (x ∷ xs)) (length (x ∷ xs)) (q h))
    full false e p q = refl

    go : (k : Kind) → Said (x ∷ xs) k → contradicting (x ∷ xs) ≡ not (is_part k)
    go Nothing w = ⊎_elim (λ z. absurd (omega arith)) (λ f. rw (eq-eqb x 255 f)) w
    go Part w = rw (ne_eqb x 255 w.1) (full (leb 3 (length (x ∷ xs))) refl w.2 w.3)
    go Overlong w = rw (ne_eqb x 255 w.1, le-leb 3 (length (x ∷ xs)) w.0, lt-ltb 4093 (section_length (x ∷ xs)) w.2)
    go (Whole n) w =
        rw (ne_eqb x 255 w.1, le-leb 3 (length (x ∷ xs)) (omega (arith, w.0)), le-ltb 4093 (section_length (x ∷ xs)) w.2, le-leb (3 + section_length (x ∷ xs)) (length (x ∷ xs)) w.0)

-- what does not contradict itself is nothing, or a part of a section
pub held_kind : (held : List ℕ) → contradicting held ≡ false → (length held ≡ 0) ⊎ (classify held ≡ Part)
held_kind held e = go (is_empty held) refl (classify held) refl (sym (contradicting_kind held) ∙ e)
  where
    go : (b : Bool) → is_empty held ≡ b → (k : Kind) → classify held ≡ k → (not b && not (is_part k)) ≡ false → (length held ≡ 0) ⊎ (classify held ≡ Part)
    go true z k c e = inl (eqb-true _ _ z)
    go false z Part c e = inr c
    go false z Nothing c e = let o : ◌≡◌ {A = ℕ} 0 1 = cc in absurd (omega arith)
    go false z Overlong c e = let o : ◌≡◌ {A = ℕ} 0 1 = cc in absurd (omega arith)
    go false z (Whole n) c e = let o : ◌≡◌ {A = ℕ} 0 1 = cc in absurd (omega arith)

pub part_holds : (held : List ℕ) → classify held ≡ Part → contradicting held ≡ false
part_holds held c = contradicting_kind held ∙ rw (part_some held c, c)

-- "held bytes are 0 to 4,095": bytes that do not contradict themselves are no more
pub held_fits : (held : List ℕ) → contradicting held ≡ false → length held ≤ 4095
held_fits held e = ⊎_elim (λ z. omega arith) (λ c. (part_fits held c).1) (held_kind held e)
