use Rattle.std.proofs.Common.{◌≤◌, ℕ}
use Rattle.hpr_syntax.specs.Tree.{Tree}
use Rattle.hpr_graph.specs.Numbered.{graph_in}
use Rattle.hpr_rebuild.specs.Tries.{AreSoMany, IsFoundWithin}
use Rattle.hpr_rebuild.proofs.Counting.{all_are_within, found_told, none_told, still_within}
use Rattle.hpr_rebuild.proofs.search.rebuild.Goals as goal

pub returns-in-Found-clause-found_within : goal.returns-in-Found-clause-found_within
returns-in-Found-clause-found_within c =
    let g = graph_in c.args.graph.now in
    let r = c.in_ok-program.field-0 in
    let p = c.in-Found.program in
    let n = c.in-Found.field-1 in
    let told = c.in_ok-program.ensures in
    still_within g c.args.rank.now c.args.issued.now n c.args.tries
    (found_told r p n (λ (q : Tree) (k : ℕ). k ≤ c.args.tries) c.in-Found.is told.found_tries) p
    (found_told r p n (λ (q : Tree) (k : ℕ). IsFoundWithin g c.args.rank.now c.args.issued.now k q) c.in-Found.is told.found_within)

pub returns-in-NoProgram-clause-all_within : goal.returns-in-NoProgram-clause-all_within
returns-in-NoProgram-clause-all_within c = λ _.
    let g = graph_in c.args.graph.now in
    let r = c.in_ok-program.field-0 in
    let n = c.in-NoProgram.field-0 in
    let told = c.in_ok-program.ensures in
    all_are_within g c.args.rank.now c.args.issued.now n c.args.tries
    (none_told r n (λ (k : ℕ). k ≤ c.args.tries) c.in-NoProgram.is told.all_tries)
    (none_told r n (AreSoMany g c.args.rank.now c.args.issued.now) c.in-NoProgram.is told.all)
