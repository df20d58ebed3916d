-- The two walkers meet their contracts: each way that the code can go on is one law of the walk.
-- Assumes nothing.
use mathlib.Core.Path.{◌≡◌, sym, ◌∙◌, ap}
use Prim.Native.Nat.{ℕ, ◌+◌, ◌/◌, ◌%◌}
use native.Mathlib.Omega.{arith}
use lib.ListN.{get_or, set}
use Rattle.loops.specs.Steps.{Met, met_by, begun, passed, walk_descriptors}
use Rattle.loops.specs.declared.walkers.Search.{Search}
use Rattle.loops.proofs.Entries.{word_from}
use Rattle.loops.proofs.Steps.{begun_here, begun_other, begun_elsewhere, passed_here, passed_other, passed_elsewhere, entries_end, entries_short, entries_bits, entries_over, entries_on, descriptors_end, descriptors_one, descriptors_over, descriptors_on}
use Rattle.loops.proofs.walkers.Search.+walk.Goals as goal
use Rattle.loops.proofs.walkers.Search.+walk.Goals.{descriptors-then-number-self+then-self, descriptors-then-number-self+else-self, descriptors-else-number-self, entries-then-number-self+then-self-eq0, entries-else-number-self, entries-else-number-self-via-then-number-self+else-self-eq0, entries-else-number-self-via-else-number-self}

pub descriptors-returns-then-left-eq0 : goal.descriptors-returns-then-left-eq0
descriptors-returns-then-left-eq0 t c =
    let a = c.args in
    let s = a.self.now in
    c.entries.ensures ∙ sym (descriptors_end s.asked s.item a.body.now a.at a.stop a.number (met_by s.found.walked) s.found.places (omega arith) (omega arith))

pub descriptors-returns-then-left-lt2 : goal.descriptors-returns-then-left-lt2
descriptors-returns-then-left-lt2 t c =
    let a = c.args in
    let s = a.self.now in
    sym (descriptors_one s.asked s.item a.body.now a.at a.stop a.number (met_by s.found.walked) s.found.places (omega arith) (omega arith))

pub descriptors-returns-then-left-n : goal.descriptors-returns-then-left-n
descriptors-returns-then-left-n t c =
    let a = c.args in
    let s = a.self.now in
    sym (descriptors_over s.asked s.item a.body.now a.at a.stop a.number (met_by s.found.walked) s.found.places (omega arith) (omega arith) (omega arith))

pub descriptors-returns : goal.descriptors-returns
descriptors-returns t c =
    let a = c.args in
    let s = a.self.now in
    let m = met_by s.found.walked in
    let n = get_or a.body.now (a.at + 1) 0 in
    let next = λ (w : Search) (k : ℕ). walk_descriptors w.asked w.item a.body.now (a.at + 2 + k) a.stop a.number (met_by w.found.walked) w.found.places in
    let with = λ (m : Met). walk_descriptors s.asked s.item a.body.now (a.at + 2 + n) a.stop a.number m s.found.places in
    let from : c.from-n.result ≡ n = c.from-n.ensures in
    let same : next c.if-number-self.self n ≡ with (passed s.asked s.item a.number a.at m) =
    elim c.if-number-self.branch [
      | descriptors-then-number-self+then-self w ↦ ap (λ (w : Search). next w n) w.self-is ∙ ap with (sym (passed_here s.asked s.item a.number a.at m w.if-number-self.true w.if-self.true))
      | descriptors-then-number-self+else-self w ↦ ap (λ (w : Search). next w n) w.self-is ∙ ap with (sym (passed_other s.asked s.item a.number a.at m w.if-number-self.true w.if-self.false))
      | descriptors-else-number-self w ↦ ap (λ (w : Search). next w n) w.self-is ∙ ap with (sym (passed_elsewhere s.asked s.item a.number a.at m w.if-number-self.false))
    ] in
    c.descriptors.ensures
    ∙ ap (next c.if-number-self.self) from
    ∙ same
    ∙ sym (descriptors_on s.asked s.item a.body.now a.at a.stop a.number m s.found.places (omega arith) (omega arith) (omega arith))

pub entries-returns-then-left-eq0 : goal.entries-returns-then-left-eq0
entries-returns-then-left-eq0 t c =
    let a = c.args in
    let s = a.self.now in
    sym (entries_end s.asked s.item a.body.now a.at a.number (met_by s.found.walked) s.found.places (omega arith))

pub entries-returns-then-left-lt5 : goal.entries-returns-then-left-lt5
entries-returns-then-left-lt5 t c =
    let a = c.args in
    let s = a.self.now in
    sym (entries_short s.asked s.item a.body.now a.at a.number (met_by s.found.walked) s.found.places (omega arith) (omega arith))

pub entries-returns-then-w-ne0 : goal.entries-returns-then-w-ne0
entries-returns-then-w-ne0 t c =
    let a = c.args in
    let s = a.self.now in
    let e = c.number_of_two-w.ensures in
    sym (entries_bits s.asked s.item a.body.now a.at a.number (met_by s.found.walked) s.found.places (omega arith) (λ z. c.if-w-ne0.true (ap (λ (w : ℕ). w / 1024 % 4) e ∙ z)))

pub entries-returns-then-left-n : goal.entries-returns-then-left-n
entries-returns-then-left-n t c =
    let a = c.args in
    let s = a.self.now in
    let e : c.from-n.result ≡ word_from a.body.now a.at % 4096 = c.from-n.ensures ∙ ap (λ (w : ℕ). w % 4096) c.number_of_two-w.ensures in
    sym (entries_over s.asked s.item a.body.now a.at a.number (met_by s.found.walked) s.found.places (omega arith) (omega arith))

pub entries-returns : goal.entries-returns
entries-returns t c =
    let a = c.args in
    let s = a.self.now in
    let m = met_by s.found.walked in
    let n = word_from a.body.now a.at % 4096 in
    let e : c.from-n.result ≡ n = c.from-n.ensures ∙ ap (λ (w : ℕ). w % 4096) c.number_of_two-w.ensures in
    let next = λ (w : Search) (k : ℕ). walk_descriptors w.asked w.item a.body.now (a.at + 5) (a.at + 5 + k) a.number (met_by w.found.walked) w.found.places in
    let with = λ (m : Met). walk_descriptors s.asked s.item a.body.now (a.at + 5) (a.at + 5 + n) a.number m (set s.found.places a.number a.at) in
    let same : next c.if-number-self.self n ≡ with (begun s.asked s.item a.number a.at m) =
    elim c.if-number-self.branch [
      | entries-then-number-self+then-self-eq0 w ↦ ap (λ (w : Search). next w n) w.self-is ∙ ap with (sym (begun_here s.asked s.item a.number a.at m w.if-number-self.true w.if-self-eq0.true))
      | entries-else-number-self w ↦
          ap (λ (w : Search). next w n) w.self-is
          ∙ ap with (sym (elim w.else-number-self.branch [
            | entries-else-number-self-via-then-number-self+else-self-eq0 v ↦ begun_other s.asked s.item a.number a.at m v.if-self-eq0.false
            | entries-else-number-self-via-else-number-self v ↦ begun_elsewhere s.asked s.item a.number a.at m v.if-number-self.false
          ]))
    ] in
    c.descriptors.ensures
    ∙ ap (next c.if-number-self.self) e
    ∙ same
    ∙ sym (entries_on s.asked s.item a.body.now a.at a.number m s.found.places (omega arith)
    (ap (λ (w : ℕ). w / 1024 % 4) (sym c.number_of_two-w.ensures) ∙ c.if-w-ne0.false)
    (omega arith))
