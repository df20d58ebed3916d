-- The row of 0xF2 is the first that applies to such a packet; past it nothing hangs on whether 0xF2 is among the ids without optional header.
-- Assumes nothing.
use mathlib.Core.Path.{◌≡◌, refl, sym, ◌∙◌, ap}
use mathlib.Core.Bool.{Bool, true, false, cond, not, ◌||◌, false≢true}
use mathlib.Core.List.{List, [], ◌∷◌}
use mathlib.Core.Logic.{◌↔◌, ◌⊎◌, inl, inr, ⊎_elim}
use Prim.Native.Nat.{ℕ}
use borrow.Author.Tests.{le-ltb, eq-eqb, ltb-false, eqb-true, eqb-false, not-true}
use lib.Dec.{ltb, eqb}
use lib.ListN.{length}
use Rattle.ground.specs.Answer.{Answer, refused, given}
use Rattle.ground.specs.Number.{number_at}
use Rattle.ground.specs.Refusal.{Row, judge, ◌when◌}
use Rattle.ground.specs.Walk.{all}
use Rattle.ground.proofs.Answer.{given_apart, refused_same}
use Rattle.ground.proofs.Judged.{given_by, judge_ind}
use Rattle.ground.proofs.Walk.{all_at, every_of}
use Rattle.pes.specs.Stream.{is_bare}
use Rattle.pes.specs.Stamps.{stamp_refusal}
use Rattle.pes.specs.Header.{HeaderContents, bare, id_of, packet_length_of, second_flags, code_of, optional_refusals, optional_of, header_contents, pes_refusals, read_header}
use Rattle.pes.specs.Claims.Dsmcc.{Dsmcc, WithoutDsmcc, DsmccGoes, told_id, plain_bare, plain_refusals, plain_header}

-- where the id is another, document 01's list says the same of it
same_list : (id : ℕ) → eqb id 0xF2 ≡ false → plain_bare id ≡ is_bare id
same_list id other = rw other (go ((((eqb id 0xBC || eqb id 0xBE) || eqb id 0xBF) || eqb id 0xF0) || eqb id 0xF1) (eqb id 0xF8) (eqb id 0xFF))
  where
    go : (a b c : Bool) → (((a || false) || b) || c) ≡ ((a || b) || c)
    go true b c = refl
    go false b c = refl

-- bytes are such a packet, or are none and are answered as before
ways : (s : List ℕ) → Dsmcc s ⊎ ((Dsmcc s → ⊥) × (read_header s ≡ plain_header s))
ways s = go (ltb (length s) 6) (eqb (number_at s 0 3) 1) (eqb (id_of s) 0xF2) refl refl refl
  where
    go : (short starts dsmcc : Bool) → ltb (length s) 6 ≡ short → eqb (number_at s 0 3) 1 ≡ starts → eqb (id_of s) 0xF2 ≡ dsmcc
        → Dsmcc s ⊎ ((Dsmcc s → ⊥) × (read_header s ≡ plain_header s))
    go true starts dsmcc e f g = inr (λ such. false≢true (sym (le-ltb (length s) 6 such.six_bytes) ∙ e), rw e)
    go false false dsmcc e f g = inr (λ such. eqb-false (number_at s 0 3) 1 f such.start_code, rw (e, f))
    go false true true e f g = inl (record { six_bytes = ltb-false (length s) 6 e; start_code = eqb-true (number_at s 0 3) 1 f; id = eqb-true (id_of s) 0xF2 g })
    go false true false e f g = inr (λ such. eqb-false (id_of s) 0xF2 g such.id, rw (same_list (id_of s) g, g))

-- ---- a number that no row has is never given
abbrev others : ℕ → List Row → Bool
others n rows = all (λ row. not (eqb row.number n)) rows

never : (n : ℕ) (rows : List Row) (c : HeaderContents) → others n rows ≡ true → judge refused rows (given c) ≡ refused n → ⊥
never n rows c e =
    judge_ind refused (λ a. a ≡ refused n → ⊥) rows (given c)
    (every_of _ rows (n when false) (λ i h applies q. eqb-false _ n (not-true _ (all_at _ rows (n when false) e i h)) (refused_same q)))
    (λ silent. given_apart)

-- 38 is none of document 01's numbers
never_38 : (s : List ℕ) → plain_header s ≡ refused 38 → ⊥
never_38 s = never 38 (plain_refusals s) _ (go (plain_bare (id_of s)))
  where
    stamps : (three two : Bool) → others 38 (cond three (stamp_refusal s 9 3 ∷ stamp_refusal s 14 1 ∷ []) (cond two (stamp_refusal s 9 2 ∷ []) [])) ≡ true
    stamps true two = refl
    stamps false true = refl
    stamps false false = refl

    go : (b : Bool) → others 38 (cond b [] (optional_refusals s)) ≡ true
    go true = refl
    go false = stamps (eqb (code_of (second_flags s)) 3) (eqb (code_of (second_flags s)) 2)

-- ---- what the ticket asks of a reading
refused_exactly : (s : List ℕ) → (read_header s ≡ refused 38) ↔ Dsmcc s
refused_exactly s = (λ q. ⊎_elim (λ such. such) (λ other. absurd (never_38 s (sym other.1 ∙ q))) (ways s), back)
  where
    back : Dsmcc s → read_header s ≡ refused 38
    back such = rw (le-ltb (length s) 6 such.six_bytes, eq-eqb (number_at s 0 3) 1 such.start_code, such.id)

never_told : (s : List ℕ) (c : HeaderContents) → read_header s ≡ given c → told_id c ≡ 0xF2 → ⊥
never_told s c e told =
    let r = given_by (pes_refusals s) (header_contents s) c e in
    eqb-false (id_of s) 0xF2 r.0.1.1.1.0 (sym (go (is_bare (id_of s))) ∙ sym (ap told_id r.1) ∙ told)
  where
    go : (b : Bool) → told_id (cond b (bare (id_of s) (packet_length_of s)) (optional_of s)) ≡ id_of s
    go true = refl
    go false = refl

as_before : (s : List ℕ) → (Dsmcc s → ⊥) → read_header s ≡ plain_header s
as_before s none = ⊎_elim (λ such. absurd (none such)) (λ other. other.1) (ways s)

-- two readings that meet it differ nowhere
same_reading : (read : List ℕ → Answer HeaderContents) → WithoutDsmcc read → (s : List ℕ) → read s ≡ read_header s
same_reading read so s =
    ⊎_elim (λ such. (so.refused_exactly s).1 such ∙ sym ((refused_exactly s).1 such)) (λ other. so.as_before s other.0 ∙ sym other.1) (ways s)

pub dsmcc_goes : DsmccGoes
dsmcc_goes = record { not_bare = refl; ours = record { refused_exactly = refused_exactly; never_told = never_told; as_before = as_before }; only = same_reading }
