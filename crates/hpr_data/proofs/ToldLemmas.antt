-- What is told is a finding.
use Rattle.std.proofs.Common.{◌≡◌, ℕ, List, Result, Ok, Err, IfOk, Vec, ap, subst, ◌∙◌}
use Rattle.std.specs.Global.{Global}
use Rattle.serde_json.specs.Data.{Data}
use Rattle.hpr_terms.specs.declared.memory.NoMemory.{NoMemory}
use Rattle.hpr_graph.specs.Numbered.{IsOneOf, Numbered, graph_in}
use Rattle.hpr_report.specs.AffectedText.{ArePoints}
use Rattle.hpr_decisions.specs.declared.status.Status.TheVariants.{Done}
use Rattle.hpr_json.specs.Answers.{IsGraphData, IsPointsData, json_line}
use Rattle.hpr_data.specs.Findings.{Finding}
use Rattle.hpr_data.specs.Told.{Tells}
use Rattle.hpr_data.specs.Private.Comes.{FoundIs}
use Rattle.hpr_data.specs.Private.ToldAs.{ToldAs}
use Rattle.hpr_data.specs.declared.found.Found.{Found}
use Rattle.hpr_data.specs.declared.found.Found.TheVariants as found
use Rattle.hpr_data.specs.declared.reply.Reply.{Reply}

-- the line of points tells them
pub points_told : (g : Numbered) (numbers : Vec ℕ Global) (shown : List ℕ) (d : Data) (result : Result Reply NoMemory) → shown ≡ numbers.items → IsPointsData (IsOneOf g shown) d
    → IfOk result (λ reply. reply.status ≡ Done) → IfOk result (λ reply. reply.text.items ≡ json_line d) → IfOk result (ToldAs (found.Affected g numbers))
points_told g numbers shown d (Ok reply) same (vs, are, is) status line =
    (vs, subst (λ (ns : List ℕ). ArePoints (IsOneOf g ns) vs) same are, (status, line ∙ ap json_line is))
points_told g numbers shown d (Err e) same is status line = tt

-- and that of a graph
pub graph_told : (g : Numbered) (d : Data) (result : Result Reply NoMemory) → IsGraphData (graph_in g) d
    → IfOk result (λ reply. reply.status ≡ Done) → IfOk result (λ reply. reply.text.items ≡ json_line d) → IfOk result (ToldAs (found.Graph g))
graph_told g d (Ok reply) (vs, es, are, edges, is) status line = (vs, es, are, edges, (status, line ∙ ap json_line is))
graph_told g d (Err e) shown status line = tt

module _ (P : Finding → Type 0) where
  abbrev pub IsTold : Reply → Type 0
  IsTold reply = (f : Finding) × P f × Tells f reply

  pub found_told : (x : Found) (reply : Reply) → FoundIs P x → ToldAs x reply → IsTold reply
  found_told (found.Merged m) reply h told = (_, h, told)
  found_told (found.Interference cs) reply h told = (_, h, told)
  found_told (found.NoProgram n) reply h told = (_, h, told)
  found_told (found.Spent tries) reply h told = (_, h, told)
  found_told (found.Affected g numbers) reply h (vs, are, told) = (_, h.1 vs are, told)
  found_told (found.Graph g) reply h (vs, es, are, edges, told) = (_, h vs es are edges, told)
  found_told (found.Judged v) reply h told = (_, h, told)
  found_told (found.Ran o) reply h told = (_, h, told)
