-- What `sample` decides.
--
-- sample_line seed parts p q s m      == the line on a sample: its seed and size, and how many parts base p,
--                                        its variants q and s and their merged program m have
-- sample_report seed parts p q s x    == that line is printed where the answer x of their integration is a
--                                        program; else the answer is reported
-- IsSampled seed parts p q s r        == r reports an answer of the integration of the three so
-- SampleOutcome seed parts r          == that, of the three programs of the sample, whose graphs haven't too
--                                        many edges; `base`, `A` or `B` names the one that has
use Rattle.std.specs.Prelude.{ℕ, List, [], ◌∷◌, ◌++◌, codes}
use Rattle.std.specs.Fmt.{decimal}
use Rattle.hpr_terms.specs.declared.limits.TheConstants.{DEFAULT_TRIES}
use Rattle.hpr_syntax.specs.Body.{part_count}
use Rattle.hpr_syntax.specs.Tree.{Tree}
use Rattle.hpr_graph.specs.Answer.{Answer}
use Rattle.hpr_graph.specs.Conflicts.{told_as}
use Rattle.hpr_report.specs.ConflictsText.{conflicts_text}
use Rattle.hpr_sample.specs.Sample.{IsSampleSize, sample}
use Rattle.hpr_inputs.specs.Decision.{Decision}
use Rattle.hpr_decisions.specs.Graphs.{OnGraphs}
use Rattle.hpr_decisions.specs.Integrate.{report_with, IsReportedWith}

abbrev pub sample_line : (seed parts : ℕ) → (p q s m : Tree) → List ℕ
sample_line seed parts p q s m =
    codes "sample " ++ decimal seed ++ codes " " ++ decimal parts ++ codes ": base " ++ decimal (part_count p.body) ++ codes " parts, A " ++ decimal (part_count q.body)
    ++ codes ", B " ++ decimal (part_count s.body) ++ codes ", merged " ++ decimal (part_count m.body) ++ codes "\n"

abbrev pub sample_report : (seed parts : ℕ) → (p q s : Tree) → Answer → Decision
sample_report seed parts p q s x = report_with (sample_line seed parts p q s) conflicts_text DEFAULT_TRIES x

abbrev pub IsSampled : (seed parts : ℕ) → (p q s : Tree) → Decision → Type 0
IsSampled seed parts p q s r = IsReportedWith (sample_line seed parts p q s) told_as conflicts_text p (q ∷ s ∷ []) DEFAULT_TRIES r

abbrev pub SampleOutcome : (seed parts : ℕ) → Decision → Type 0
SampleOutcome seed parts r =
    let three = sample seed parts in
    IsSampleSize parts × OnGraphs (codes "base") three.base (codes "A") three.a (codes "B") three.b (IsSampled seed parts three.base three.a three.b r) r
