-- What is decided of an offered program, by the programs of four files.
--
-- IsVerifiedOf names ps r == for the programs ps of four files: a graph with too many edges refuses its file,
--                            in this order; else r reports a verdict on the last one
use Rattle.std.specs.Prelude.{List, [], ◌∷◌}
use Rattle.hpr_syntax.specs.Tree.{Tree}
use Rattle.hpr_words.specs.Request.{Text}
use Rattle.hpr_inputs.specs.Decision.{Decision}
use Rattle.hpr_decisions.specs.Graphs.{OnAllGraphs}
use Rattle.hpr_decisions.specs.VerifyFiles.{IsVerified}

abbrev pub IsVerifiedOf : List Text → List Tree → Decision → Type 0
IsVerifiedOf names (p ∷ q ∷ s ∷ o ∷ []) r = OnAllGraphs names (p ∷ q ∷ s ∷ o ∷ []) (IsVerified p q s o r) r
IsVerifiedOf names _ r = ⊥
