-- What was measured and copied is what the rule gives: the bytes of the sections and of what is held stand where the sizes say.
-- Assumes nothing.
use mathlib.Core.Path.{◌≡◌, refl, sym, ◌∙◌, ap}
use mathlib.Core.Bool.{Bool, true, false, cond}
use lib.Dec.{eqb}
use mathlib.Core.List.{List, [], ◌∷◌, ◌++◌, append_assoc}
use Prim.Native.Nat.{ℕ, suc, ◌+◌, ◌-◌, ◌*◌, ◌≤◌, ◌<◌, min}
use native.Mathlib.Nat.{zero-add, not-suc-le-zero}
use native.Mathlib.Omega.{arith}
use lib.ListN.{length, take, drop, length-append}
use lib.Seq.{length-take-le, drop-drop}
use Rattle.std.proofs.lemmas.List.{drop-append-le, take-append-drop}
use borrow.Rule.Slice.PartMut.{put_mid}
use Rattle.ground.specs.Write.{put}
use Rattle.ground.proofs.Write.{put-put}
use Rattle.ground.proofs.Part.{length_part, take_least, drop_least, put_joined}
use Rattle.gather.specs.declared.measure.Sizes.{Sizes}
use Rattle.gather.specs.Kind.{join}
use Rattle.gather.specs.Rule.{Yield, unfinished_of, add, walk, together, ended, pointer, front, back, begun_in}
use Rattle.gather.specs.Steps.{sizes_as, sizes_of, Carried, carried, carried_as, Room}
use Rattle.gather.proofs.Walk.{walk_fine, walk_split, whole_count}
use Rattle.gather.proofs.Adding.{add_fine, add_split, put_added}

-- ---- bounds of what was measured
pub record AddedFits (n m : ℕ) (z : Sizes) : Type 0 where
  pub within : z.bytes ≤ n + m
  pub most : z.bytes ≤ 4096
  pub bound : z.held ≤ 4095
  pub rest : z.held ≤ n + m
  pub few : 3 * z.sections ≤ z.bytes
  pub one : z.given_up ≤ 1

pub added_fits : (held new : List ℕ) (z : Sizes) → z ≡ sizes_of 0 (add held new) → AddedFits (length held) (length new) z
added_fits held new z e =
    let p = add_split held new in
    let q = add_fine held new in
    rw e (record {
      within = p.within;
      most = p.most;
      bound = p.bound;
      rest = p.rest;
      few = whole_count (add held new).sections q.whole;
      one = omega (arith, q.one);
    })

pub record WalkedFits (m : ℕ) (z : Sizes) : Type 0 where
  pub within : z.bytes + z.held ≤ m
  pub few : 3 * z.sections ≤ z.bytes
  pub one : z.given_up ≤ 1

pub walked_fits : (s : List ℕ) (begun : ℕ) (z : Sizes) → z ≡ sizes_of begun (walk s) → WalkedFits (length s) z
walked_fits s begun z e =
    let q = walk_fine s in
    rw e (record { within = (walk_split s).fits; few = whole_count (walk s).sections q.whole; one = omega (arith, q.one) })

-- one unfinished section at most
pub unfinished_le : (held : ℕ) → unfinished_of held ≤ 1
unfinished_le held = go (eqb held 0)
  where
    go : (b : Bool) → cond b 0 1 ≤ 1
    go true = omega arith
    go false = omega arith

pub join-append : (a b : List (List ℕ)) → join (a ++ b) ≡ join a ++ join b
join-append [] b = refl
join-append (s ∷ ss) b = ap (λ (l : List ℕ). s ++ l) (join-append ss b) ∙ sym (append_assoc s (join ss) (join b))

-- the sizes of two yields together, of which the first is ended and the second begins sections
abbrev pub sizes_together : Sizes → Sizes → Sizes
sizes_together first rest =
    sizes_as (first.sections + rest.sections) (first.bytes + rest.bytes) rest.held (first.given_up + unfinished_of first.held + rest.given_up) rest.begun

-- ---- a part of a list that was written
-- a list whose n elements from a place on are others now
pub put_part : (d : List ℕ) (at n : ℕ) (s t : List ℕ) → t ≡ s → n ≡ length s → put_mid at n d t ≡ put d at s
unfolding put
put_part d at n s t e k = rw (e, k, drop-drop (length s) at d)

-- a write at the start of a part is one at the part's place
pub put_inside : (d : List ℕ) (at n : ℕ) (s : List ℕ) → at + n ≤ length d → length s ≤ n
    → put_mid at n d (put (take n (drop at d)) 0 s) ≡ put d at s
unfolding put
put_inside d at n s f h =
    let r = drop at d in
    let long : length (take n r) ≡ n = length_part n d at f in
    let cut : drop (length s) (take n r) ++ drop n r ≡ drop (length s) r =
    sym (drop-append-le (length s) (take n r) (drop n r) (rw long h)) ∙ ap (λ (l : List ℕ). drop (length s) l) (take-append-drop n r) in
    rw (zero-add (length s), append_assoc s (drop (length s) (take n r)) (drop n r), cut, drop-drop (length s) at d)

-- what was carried to an area was carried to the store where the area lies
pub carried_area : (store : List ℕ) (base n : ℕ) (out : List ℕ) (begun : ℕ) (y : Yield) → base + n ≤ length store → length y.held ≤ n
    → (z : Sizes) (area' out' : List ℕ) → carried_as z area' out' ≡ carried begun y (take n (drop base store)) 0 out
    → carried_as z (put_mid base n store area') out' ≡ carried begun y store base out
carried_area store base n out begun y f h z area' out' e =
    ap (λ (c : Carried). carried_as c.sizes (put_mid base n store c.store) c.out) e
    ∙ ap (λ (l : List ℕ). carried_as (sizes_of begun y) l (put out 0 (join y.sections))) (put_inside store base n y.held f h)

-- ---- the pointer's two parts, cut at the payload's end
pub front_is : (p : List ℕ) → 0 < length p → take (min (length p) (1 + pointer p) - 1) (drop 1 p) ≡ front p
front_is [] h = absurd (not-suc-le-zero h)
front_is (x ∷ xs) h =
    let m : min (suc (length xs)) (1 + x) - 1 ≡ min x (length xs) = omega arith in
    rw m (take_least xs x)

pub back_is : (p : List ℕ) → drop (min (length p) (1 + pointer p)) p ≡ back p
back_is p =
    let m : min (length p) (1 + pointer p) ≡ min (1 + pointer p) (length p) = omega arith in
    rw m (drop_least p (1 + pointer p))

-- what is held has as many bytes as the marks say
pub held_size : {n : ℕ} {payload area out : List ℕ} → Room n payload area 0 out → length (take n area) ≡ n
held_size {n} {payload} {area} {out} room = length-take-le n area (omega (arith, room.bound, room.area))

-- unit start 0
pub continued_carried : (n : ℕ) (payload area out : List ℕ) → Room n payload area 0 out → (z : Sizes) → z ≡ sizes_of 0 (add (take n area) payload)
    → carried_as z (put area n (take (z.held - n) payload)) (put out 0 (take z.bytes (take n area ++ payload)))
    ≡ carried 0 (add (take n area) payload) area 0 out
continued_carried n payload area out room z e =
    let more : put area n (take (length (add (take n area) payload).held - n) payload) ≡ put area 0 (add (take n area) payload).held =
    rw (zero-add n) at (put_added area 0 n payload room.area room.bound) in
    rw (e, more, (add_split (take n area) payload).joined)

-- unit start 1: the bounds of what was measured of the first bytes, after the held ones, and of the bytes after them
pub record PartedFits (before front back out : List ℕ) (x y : Sizes) : Type 0 where
  pub first : x.bytes ≤ length before + length front
  pub rest : y.bytes + y.held ≤ length back
  pub held : y.held ≤ 184
  pub room : x.bytes + y.bytes ≤ length out
  pub few : (3 * x.sections ≤ x.bytes) × (3 * y.sections ≤ y.bytes)
  pub gave : (x.given_up ≤ 1) × (y.given_up ≤ 1)
  pub rests : unfinished_of x.held ≤ 1

pub parted_fits : {n : ℕ} {front back area out : List ℕ} {x y : Sizes} → Room n front area 0 out → length front + length back < 184
    → x ≡ sizes_of 0 (add (take n area) front) → y ≡ sizes_of (begun_in back) (walk back) → PartedFits (take n area) front back out x y
parted_fits {n} {front} {back} {area} {out} {x} {y} room short p q =
    let f = added_fits (take n area) front x p in
    let w = walked_fits back (begun_in back) y q in
    let size = held_size room in
    record {
      first = f.within;
      rest = w.within;
      held = omega (arith, w.within, short);
      room = omega (arith, f.within, w.within, size, short, room);
      few = (f.few, w.few);
      gave = (f.one, w.one);
      rests = unfinished_le x.held;
    }

-- unit start 1: what the first bytes give after the held ones, and what the bytes after them give
module _ (before front back area out : List ℕ) where
  pub parted_carried : (x y : Sizes) → x ≡ sizes_of 0 (add before front) → y ≡ sizes_of (begun_in back) (walk back) → x.bytes + y.bytes ≤ length out
      → carried_as (sizes_together x y)
      (put area 0 (take y.held (drop y.bytes back)))
      (put (put out 0 (take x.bytes (before ++ front))) x.bytes (take y.bytes back))
      ≡ carried (begun_in back) (together (ended (add before front)) (walk back)) area 0 out
  parted_carried x y p q f =
      let fits : length (join (add before front).sections) + length (join (walk back).sections) ≤ length out = rw (p, q) at f in
      let two : put (put out 0 (join (add before front).sections)) (length (join (add before front).sections)) (join (walk back).sections)
      ≡ put out 0 (join (add before front).sections ++ join (walk back).sections) =
      ap (λ (k : ℕ). put (put out 0 (join (add before front).sections)) k (join (walk back).sections)) (sym (zero-add (length (join (add before front).sections))))
      ∙ put-put out 0 (join (add before front).sections) (omega (arith, fits)) (join (walk back).sections) (omega (arith, fits)) in
      rw (
        p,
        q,
        (walk_split back).rest,
        (walk_split back).joined,
        (add_split before front).joined,
        two,
        length-append (add before front).sections (walk back).sections,
        join-append (add before front).sections (walk back).sections,
        length-append (join (add before front).sections) (join (walk back).sections),
      )

-- ---- a section finished from two places
pub finish_put : (out held new : List ℕ) (bytes first : ℕ) → bytes ≤ length held + length new → bytes ≤ length out → first ≡ min bytes (length held)
    → put (put out 0 (take first held)) first (take (bytes - first) new) ≡ put out 0 (take bytes (held ++ new))
finish_put out held new bytes first f h e =
    let room : bytes ≤ length (held ++ new) = rw (length-append held new) f in
    rw e (put_joined out held new bytes h room)
