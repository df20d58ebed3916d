-- Each return is the first of the last three rows that applies; past them the payload is the packet's and short enough to gather.
-- Assumes nothing.
use mathlib.Core.Path.{◌≡◌, sym, ◌∙◌, ap, ap₂}
use Prim.Native.Nat.{ℕ, ◌-◌}
use native.Mathlib.Omega.{arith}
use lib.ListN.{length, get_or, take, drop}
use borrow.Author.Rules.{rules}
use Rattle.packet.specs.Packet.{Contents, contents}
use Rattle.gather.specs.Rule.{Packet, rule, leaves_none}
use Rattle.gather.specs.Memory.{state_of}
use Rattle.state.specs.State.{area_start, free_area}
use Rattle.packet_call.specs.Packet.{put_back}
use Rattle.packet_call.proofs.PacketRead.{read_same, start_inside, part_payload, payload_short, counter_few, packet_same}
use Rattle.packet_call.proofs.Order.{contradicts_told, tests_scrambled, tests_none_left, tests_passed}
use Rattle.packet_call.proofs.wanted.Goals as goal

pub returns-then-packet-ne0 : goal.returns-then-packet-ne0
returns-then-packet-ne0 c =
    let a = c.args in
    let pre = c.requires in
    let contradicts = contradicts_told a.state a.i a.bytes.now a.store.now a.out.now a.sets.now c.held_of-held.ensures c.contradicts.ensures in
    let if1 = c.if-contradicts in
    let scrambling : (contents a.bytes.now).scrambling ≡ a.packet.scrambling = ap (λ (q : Contents). q.scrambling) (read_same a.bytes.now a.packet pre.area_and_packet.1) in
    rw c.refused-then-packet-ne0.ensures
    (sym (tests_scrambled a.state a.i a.bytes.now a.store.now a.out.now a.sets.now (contradicts ∙ if1.false) (λ e. c.if-packet-ne0.true (sym scrambling ∙ e))))

pub slice_bounds-payload-count : goal.slice_bounds-payload-count
slice_bounds-payload-count c =
    let a = c.args in
    let pre = c.requires in
    let inside = start_inside a.bytes.now a.packet pre.area_and_packet.1 in
    let at = c.payload_start-at.ensures in
    omega arith

pub slice_bounds-payload-start : goal.slice_bounds-payload-start
slice_bounds-payload-start c =
    let a = c.args in
    let inside = start_inside a.bytes.now a.packet c.requires.area_and_packet.1 in
    let at = c.payload_start-at.ensures in
    search rules

pub returns-then-leaves_none : goal.returns-then-leaves_none
returns-then-leaves_none c =
    let a = c.args in
    let pre = c.requires in
    let contradicts = contradicts_told a.state a.i a.bytes.now a.store.now a.out.now a.sets.now c.held_of-held.ensures c.contradicts.ensures in
    let if1 = c.if-contradicts in
    let if2 = c.if-packet-ne0 in
    let payload_start = c.payload_start-at in
    let leaves = c.leaves_none in
    let b = a.bytes.now in
    let same = read_same b a.packet pre.area_and_packet.1 in
    let scrambling : (contents b).scrambling ≡ a.packet.scrambling = ap (λ (q : Contents). q.scrambling) same in
    let part = ap (λ (n : ℕ). take (length b - n) (drop n b)) payload_start.ensures ∙ part_payload b a.packet pre.area_and_packet.1 in
    let none = leaves.ensures ∙ ap₂ leaves_none (ap (λ (q : Contents). q.unit_start) (sym same)) part in
    rw c.refused-then-leaves_none.ensures
    (sym (tests_none_left a.state a.i b a.store.now a.out.now a.sets.now (contradicts ∙ if1.false) (scrambling ∙ if2.false) (sym none ∙ c.if-leaves_none.true)))

pub gathered-requires-clause-area_and_payload : goal.gathered-requires-clause-area_and_payload
gathered-requires-clause-area_and_payload c =
    let a = c.args in
    let pre = c.requires in
    let payload_start = c.payload_start-at in
    let b = a.bytes.now in
    let read = pre.area_and_packet.1 in
    let short = payload_short b a.packet read in
    let few = counter_few b a.packet read in
    let contradicts = contradicts_told a.state a.i b a.store.now a.out.now a.sets.now c.held_of-held.ensures c.contradicts.ensures in
    (pre.area_and_packet.0, rw payload_start.ensures short, few, contradicts ∙ c.if-contradicts.false)

pub returns : goal.returns
returns c =
    let a = c.args in
    let pre = c.requires in
    let contradicts = contradicts_told a.state a.i a.bytes.now a.store.now a.out.now a.sets.now c.held_of-held.ensures c.contradicts.ensures in
    let if1 = c.if-contradicts in
    let if2 = c.if-packet-ne0 in
    let payload_start = c.payload_start-at in
    let leaves = c.leaves_none in
    let if3 = c.if-leaves_none in
    let gathered = c.gathered in
    let s = a.state in
    let b = a.bytes.now in
    let store = a.store.now in
    let out = a.out.now in
    let sets = a.sets.now in
    let same = read_same b a.packet pre.area_and_packet.1 in
    let scrambling : (contents b).scrambling ≡ a.packet.scrambling = ap (λ (q : Contents). q.scrambling) same in
    let part = ap (λ (n : ℕ). take (length b - n) (drop n b)) payload_start.ensures ∙ part_payload b a.packet pre.area_and_packet.1 in
    let none = leaves.ensures ∙ ap₂ leaves_none (ap (λ (q : Contents). q.unit_start) (sym same)) part in
    let brought = packet_same _ _ _ _ _ _ (ap (λ (q : Contents). q.counter) (sym same)) (ap (λ (q : Contents). q.unit_start) (sym same)) part in
    gathered.ensures
    ∙ ap (λ (k : Packet). put_back s a.i (rule (state_of (get_or s.areas a.i free_area).marks store (area_start a.i)) k) store out sets) brought
    ∙ sym (tests_passed s a.i b store out sets (contradicts ∙ if1.false) (scrambling ∙ if2.false) (sym none ∙ if3.false))
