-- The text of an edge, round its two ends.
--
-- kind_head k == what stands before the ends
-- kind_tail k == what stands behind them
use Rattle.std.specs.Prelude.{ℕ, List, [], ◌++◌, codes}
use Rattle.hpr_graph.specs.declared.edge.Kind.{Kind}
use Rattle.hpr_graph.specs.declared.edge.Kind.TheVariants.{Control, Independent, Carried, Order}
use Rattle.hpr_report.specs.GraphTexts.{label_word, vertex_text}

abbrev pub kind_head : Kind → List ℕ
kind_head (Control label) = codes "control " ++ label_word label ++ codes " "
kind_head (Independent x) = codes "flow " ++ x ++ codes " "
kind_head (Carried x w) = codes "carried " ++ x ++ codes " "
kind_head (Order u) = codes "order "

abbrev pub kind_tail : Kind → List ℕ
kind_tail (Control label) = []
kind_tail (Independent x) = []
kind_tail (Carried x w) = codes " by " ++ vertex_text w
kind_tail (Order u) = codes " for " ++ vertex_text u
