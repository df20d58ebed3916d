-- What each public call promises.
use Rattle.std.specs.Prelude.{◌≡◌, List, ℕ, Option}
use Rattle.std.specs.declared.result.Result.{Result}
use Rattle.ground.specs.declared.Refusal.{Refusal}
use Rattle.state.specs.declared.After.{After}
use Rattle.state.specs.declared.State.{State}
use Rattle.gather.specs.declared.Gathered.{Gathered}
use Rattle.packet_call.specs.Packet.{told_handled, report_of, packet_of}
use Rattle.packet_call.specs.declared.Report.{Report}

-- `packet`: its outcome is the answer and the state with every byte of the store and of the output and every place of the list after it
abbrev pub HandlesPacket : State → List ℕ → List ℕ → List ℕ → List ℕ → After (Result (Option Report) Refusal) × List ℕ × List ℕ × List ℕ → Type 0
HandlesPacket s p store out sets o = told_handled o.0 o.1 o.2 o.3 ≡ packet_of s p store out sets

-- `Report::from`
abbrev pub GivesReport : Gathered → Report → Type 0
GivesReport g r = r ≡ report_of g
