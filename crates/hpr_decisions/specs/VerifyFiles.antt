-- What `verify` decides.
--
-- holder_word h                == the word for a graph: that of the program that is offered, or the merged
--                                 one
-- certificate_data v           == what shows that an offered program isn't the merged one, as JSON; members
--                                 stand in ascending order of their keys
-- certificate_text v           == its compact text and a newline
-- report_verdict v             == what is decided by the verdict v: its text is printed
-- IsVerified base a b offered r == r reports a verdict on an offered program, by base and two variants
-- VerifyOutcome files base a b m r == that, of the programs that four files spell, read in order, whose
--                                     graphs haven't too many edges
use Rattle.std.specs.Prelude.{◌≡◌, ℕ, List, [], ◌∷◌, ◌++◌, codes}
use Rattle.serde_json.specs.Data.{Data, string, object, member, no_members}
use Rattle.serde_json.specs.Written.{compact_text}
use Rattle.hpr_io.specs.Files.{Files}
use Rattle.hpr_syntax.specs.Tree.{Tree}
use Rattle.hpr_report.specs.ConflictsText.{side_word}
use Rattle.hpr_report.specs.GraphTexts.{edge_text, vertex_words}
use Rattle.hpr_verify.specs.declared.verdict.Holder.{Holder}
use Rattle.hpr_verify.specs.declared.verdict.Holder.TheVariants.{Offered, Merged}
use Rattle.hpr_verify.specs.declared.verdict.Verdict.{Verdict}
use Rattle.hpr_verify.specs.declared.verdict.Verdict.TheVariants as verdict
use Rattle.hpr_verify.specs.Verdict.{IsVerdict}
use Rattle.hpr_words.specs.Request.{Text}
use Rattle.hpr_inputs.specs.Decision.{Decision, prints}
use Rattle.hpr_inputs.specs.Files.{OnFile, OnFiles}
use Rattle.hpr_inputs.specs.declared.answer.Kind.TheVariants as kind
use Rattle.hpr_decisions.specs.Graphs.{OnAllGraphs}

abbrev pub holder_word : Holder → List ℕ
holder_word Offered = codes "offered"
holder_word Merged = codes "merged"

abbrev pub certificate_data : Verdict → Data
certificate_data verdict.Same = object no_members
certificate_data (verdict.Conflict c) =
    object
    (member (codes "edge") (string (edge_text c.edge))
    (member (codes "kind") (string (codes "conflict"))
    (member (codes "point") (string (vertex_words c.point)) (member (codes "side") (string (side_word c.side)) no_members))))
certificate_data (verdict.Vertex v h) =
    object
    (member (codes "holder") (string (holder_word h))
    (member (codes "kind") (string (codes "vertex")) (member (codes "vertex") (string (vertex_words v)) no_members)))
certificate_data (verdict.Edge e h) =
    object
    (member (codes "edge") (string (edge_text e))
    (member (codes "holder") (string (holder_word h)) (member (codes "kind") (string (codes "edge")) no_members)))

abbrev pub certificate_text : Verdict → List ℕ
certificate_text v = compact_text (certificate_data v) ++ codes "\n"

abbrev pub report_verdict : Verdict → Decision
report_verdict verdict.Same = prints kind.Done (codes "verified\n")
report_verdict (verdict.Conflict c) = prints kind.Rejected (certificate_text (verdict.Conflict c))
report_verdict (verdict.Vertex v h) = prints kind.Rejected (certificate_text (verdict.Vertex v h))
report_verdict (verdict.Edge e h) = prints kind.Rejected (certificate_text (verdict.Edge e h))

abbrev pub IsVerified : Tree → Tree → Tree → Tree → Decision → Type 0
IsVerified base a b offered r = (v : Verdict) × IsVerdict base a b offered v × (r ≡ report_verdict v)

abbrev pub VerifyOutcome : Files → Text → Text → Text → Text → Decision → Type 0
VerifyOutcome files base a b m r =
    OnFiles files base a b (λ p q s. OnFile files m (λ o. OnAllGraphs (base ∷ a ∷ b ∷ m ∷ []) (p ∷ q ∷ s ∷ o ∷ []) (IsVerified p q s o r) r) r) r
