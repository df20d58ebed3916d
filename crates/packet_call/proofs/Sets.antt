-- The sets of the sections that stand joined at the start of the output are those of the sections that the rule completes, and a loop writes them one after the other.
-- Assumes nothing.
use mathlib.Core.Path.{◌≡◌, refl, sym, ◌∙◌, ap, ap₂}
use mathlib.Core.List.{List, [], ◌∷◌, ◌++◌, append_assoc}
use Prim.Native.Nat.{ℕ, zero, suc, ◌+◌, ◌-◌, ◌≤◌, ◌<◌, min}
use native.Mathlib.Nat.{not-suc-le-zero, add-zero}
use native.Mathlib.Numerals.{unary_clauses}
use native.Mathlib.Omega.{arith}
use lib.ListN.{length, get_or, take, drop, set, length-set, get_or-append}
use lib.Seq.{drop_at, drop-drop, get_or-drop, take_all}
use Rattle.ground.specs.Walk.{Every}
use Rattle.ground.specs.Write.{put}
use Rattle.ground.proofs.Part.{drop_both}
use Rattle.ground.proofs.Write.{put_nil, stored}
use Rattle.section.specs.Section.{table_of, section_size}
use Rattle.gather.specs.Claims.{IsWhole}
use Rattle.gather.specs.Kind.{join}
use Rattle.gather.proofs.Classes.{whole_fits}
use Rattle.gather.proofs.Cutting.{says_size}
use Rattle.state.specs.Choice.{Placed, places_for}
use Rattle.packet_call.specs.Packet.{sets_for}
use Rattle.packet_call.specs.Steps.{sets_in}

module _ (i : ℕ) (places : List Placed) where
  -- ---- of sections that stand joined
  sets_joined : (ss : List (List ℕ)) (rest : List ℕ) → Every IsWhole ss → sets_in i places (length ss) (join ss ++ rest) ≡ sets_for i places ss
  sets_joined [] rest w = refl
  sets_joined (s ∷ ss) rest w =
      let least = (whole_fits s (length s) w.0).least in
      let after = join ss ++ rest in
      rw append_assoc
      (ap₂ (λ (t : ℕ) (l : List ℕ). places_for i t places ∷ sets_in i places (length ss) l) (get_or-append s after 0 0 (omega arith))
      (ap (λ (n : ℕ). drop n (s ++ after)) (says_size s after w.0) ∙ drop_at s after (length s) refl)
      ∙ ap (λ (l : List ℕ). places_for i (table_of s) places ∷ l) (sets_joined ss rest w.1))

  pub sets_written : (ss : List (List ℕ)) (out : List ℕ) → Every IsWhole ss → sets_in i places (length ss) (put out 0 (join ss)) ≡ sets_for i places ss
  unfolding put
  sets_written ss out w = sets_joined ss (drop (0 + length (join ss)) out) w

  -- ---- one section after the other
  sets_long : (n : ℕ) (out : List ℕ) → length (sets_in i places n out) ≡ n
  sets_long zero out = refl
  sets_long (suc n) out = ap suc (sets_long n (drop (section_size out) out))

  sets_next : (left : ℕ) (o : List ℕ) → 0 < left → sets_in i places left o ≡ places_for i (table_of o) places ∷ sets_in i places (left - 1) (drop (section_size o) o)
  sets_next zero o h = absurd (not-suc-le-zero h)
  sets_next (suc left) o h = simp unary_clauses

  module _ (count : ℕ) (out lent : List ℕ) where
    abbrev every : List ℕ
    every = sets_in i places count out

    -- so many sets are written, and the next section stands at a place
    pub record Told (k place : ℕ) (sets : List ℕ) : Type 0 where
      pub bound : k ≤ count
      pub long : length sets ≡ length lent
      pub done : sets ≡ put lent 0 (take k (sets_in i places count out))
      pub left : sets_in i places (count - k) (drop place out) ≡ drop k (sets_in i places count out)

    pub told_none : Told 0 0 lent
    told_none =
        let all : count - 0 ≡ count = omega arith in
        record { bound = omega arith; long = refl; done = sym (put_nil lent 0); left = ap (λ (n : ℕ). sets_in i places n out) all }

    pub told_one : count ≤ length lent → (k place : ℕ) (sets : List ℕ) (set_of_lem place' : ℕ) → Told k place sets → k < count → set_of_lem ≡ places_for i (table_of (drop place out)) places
        → place' ≡ min (place + section_size (drop place out)) (length out) → Told (k + 1) place' (set sets k set_of_lem)
    told_one room k place sets set_of_lem place' t h e p =
        record {
          bound = omega arith;
          long = length-set sets k set_of_lem ∙ t.long;
          done = ap (λ (l : List ℕ). set l k set_of_lem) t.done ∙ stored lent every k set_of_lem 0 (omega arith) (rw (sets_long count out) h) (e ∙ sym first);
          left =
              let less : count - (k + 1) ≡ count - k - 1 = omega arith in
              ap₂ (λ (n : ℕ) (l : List ℕ). sets_in i places n l) less (ap (λ (n : ℕ). drop n out) p ∙ drop_both out place (section_size o))
              ∙ sym (ap (drop 1) split)
              ∙ drop-drop 1 k every;
        }
      where
        o : List ℕ
        o = drop place out

        split : drop k every ≡ places_for i (table_of o) places ∷ sets_in i places (count - k - 1) (drop (section_size o) o)
        split = sym t.left ∙ sets_next (count - k) o (omega arith)

        first : get_or every k 0 ≡ places_for i (table_of o) places
        first = ap (λ (n : ℕ). get_or every n 0) (sym (add-zero k)) ∙ sym (get_or-drop k every 0 0) ∙ ap (λ (l : List ℕ). get_or l 0 0) split

    pub told_all : (k place : ℕ) (sets : List ℕ) → Told k place sets → count ≤ k → sets ≡ put lent 0 (sets_in i places count out)
    told_all k place sets t h = t.done ∙ ap (put lent 0) (take_all k every (rw (sets_long count out) h))
