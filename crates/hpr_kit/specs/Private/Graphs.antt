-- What telling something of a graph comes to.
--
-- Says P result           == a reply of P, also where it is a refusal; or memory ran out
-- MakesGraph file p result == the graph of the program p of this file; or too many edges; or memory ran out
-- AreGraphs ps gs         == each is the graph of the program at its place, and has not too many edges; there
--                            are as many
-- MakesGraphs files ps result == the graphs of the programs of these files; or the first has too many edges;
--                            or memory ran out
-- Halts P reads told before now result == a reply of P, where the files are told; or a read failed; or memory
--                            ran out
-- Settles result settled  == the same reply, whether it is a refusal; or the same stop
use Rattle.std.specs.Prelude.{◌≡◌, ℕ, List, [], ◌∷◌, Option, Result, Ok, Err, Vec}
use Rattle.std.specs.Global.{Global}
use Rattle.hpr_io.specs.Files.{Files}
use Rattle.hpr_syntax.specs.Tree.{Tree}
use Rattle.hpr_graph.specs.Graphs.{Same}
use Rattle.hpr_graph.specs.Numbered.{Numbered, graph_in}
use Rattle.hpr_graph.specs.ProgramGraph.{graph_of}
use Rattle.hpr_words.specs.Request.{Text}
use Rattle.hpr_json.specs.Refusals.{edges_text}
use Rattle.hpr_kit.specs.Answer.{Answer, refuses}
use Rattle.hpr_kit.specs.Graphs.{HasTooManyEdges, OnGraphs}
use Rattle.hpr_kit.specs.Private.Loads.{HaltIs}
use Rattle.hpr_kit.specs.Private.Replies.{seen}
use Rattle.hpr_kit.specs.declared.load.Halt.{Halt}
use Rattle.hpr_kit.specs.declared.load.Halt.TheVariants as halt
use Rattle.hpr_kit.specs.declared.reply.Reply.{Reply}
use Rattle.hpr_kit.specs.declared.reply.Stop.{Stop}
use Rattle.hpr_kit.specs.declared.reply.Stop.TheVariants as stop

abbrev pub SaysIn : (Answer → Type 0) → Halt → Type 0
SaysIn P (halt.Refused reply) = P (seen reply)
SaysIn P (halt.Stop s) = s ≡ stop.Memory

abbrev pub Says : (Answer → Type 0) → Result Reply Halt → Type 0
Says P (Ok reply) = P (seen reply)
Says P (Err h) = SaysIn P h

abbrev pub MakesGraph : Text → Tree → Result Numbered Halt → Type 0
MakesGraph file p (Ok g) = Same (graph_in g) (graph_of p) × (¬ HasTooManyEdges p)
MakesGraph file p (Err h) = SaysIn (λ a. HasTooManyEdges p × (a ≡ refuses (edges_text file))) h

abbrev pub AreGraphs : List Tree → List Numbered → Type 0
AreGraphs [] [] = Unit {0}
AreGraphs (p ∷ ps) (g ∷ gs) = Same (graph_in g) (graph_of p) × (¬ HasTooManyEdges p) × AreGraphs ps gs
AreGraphs _ _ = ⊥

abbrev pub MakesGraphs : List Text → List Tree → Result (Vec Numbered Global) Halt → Type 0
MakesGraphs files ps (Ok gs) = AreGraphs ps gs.items
MakesGraphs files ps (Err h) = SaysIn (λ a. OnGraphs files ps (λ gs. ⊥) a) h

abbrev pub Halts : (Files → Answer → Type 0) → (Text → Type 0) → Option Files → ℕ → ℕ → Result Reply Halt
    → Type 0
Halts P reads told before now (Ok reply) = HaltIs P reads told before now (halt.Refused reply)
Halts P reads told before now (Err h) = HaltIs P reads told before now h

abbrev pub Settles : Result Reply Halt → Result Reply Stop → Type 0
Settles (Ok reply) settled = settled ≡ Ok reply
Settles (Err (halt.Refused reply)) settled = settled ≡ Ok reply
Settles (Err (halt.Stop s)) settled = settled ≡ Err s
