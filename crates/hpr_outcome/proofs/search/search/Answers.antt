use Rattle.std.proofs.Common.{◌≡◌, ◌-◌, ◌≤◌, ℕ, List, subst}
use Rattle.hpr_syntax.specs.Tree.{Tree}
use Rattle.hpr_graph.specs.declared.conflict.Conflict.{Conflict}
use Rattle.hpr_graph.specs.Answer.{HasNoProgram, IsFound, printed, spent}
use Rattle.hpr_graph.specs.Leaves.{AreLeavesSpent}
use Rattle.hpr_graph.specs.Numbered.{graph_in}
use Rattle.hpr_rebuild.specs.Tries.{AreSoMany, IsFoundWithin}
use Rattle.hpr_rebuild.specs.Rebuilding.{IfSpent}
use Rattle.hpr_rebuild.specs.declared.search.Rebuilt.{Rebuilt}
use Rattle.hpr_rebuild.proofs.Counting.{found_told, none_told}
use Rattle.hpr_outcome.proofs.Told.{merged_by, none_by, spent_by}
use Rattle.hpr_outcome.proofs.search.search.Goals as goal

pub returns-in-Found-clause-merged : goal.returns-in-Found-clause-merged
returns-in-Found-clause-merged c =
    let m = c.args.searched in
    let rank = c.deref.result.now in
    let g = graph_in m.graph in
    let r = c.in_ok-program.field-0 in
    let p = c.in-Found.program in
    let n = c.in-Found.leaf in
    let is = c.in-Found.is in
    let told = c.in_ok-program.ensures in (
      c.sought.ensures.from,
      merged_by m c.sought.result c.sought.ensures.from rank c.deref.ensures.value c.args.tries n p c.sought.ensures.tries (
        found_told r p n (λ (q : Tree) (k : ℕ). IsFound {X = Conflict} g rank m.issued c.args.tries (printed q)) is told.found,
        found_told r p n (λ (q : Tree) (k : ℕ). IsFoundWithin g rank m.issued k q) is told.found_within,
        found_told r p n (λ (q : Tree) (k : ℕ). AreLeavesSpent g rank m.issued (k - 1)) is told.found_least,
        found_told r p n (λ (q : Tree) (k : ℕ). k ≤ c.args.tries) is told.found_tries,
      ),
    )

pub returns-in_ok-clash-in-NoProgram-clause-no_program : goal.returns-in_ok-clash-in-NoProgram-clause-no_program
returns-in_ok-clash-in-NoProgram-clause-no_program c =
    let m = c.args.searched in
    let rank = c.deref.result.now in
    let g = graph_in m.graph in
    let r = c.in_ok-program.field-0 in
    let n = c.in-NoProgram.leaves in
    let is = c.in-NoProgram.is in
    let told = c.in_ok-program.ensures in
    let s = c.sought-in-NoProgram in (
      s.ensures.from,
      none_by m s.result s.ensures.from rank c.deref.ensures.value c.args.tries n c.in_ok-clash-in-NoProgram.clash s.ensures.tries (
        none_told r n (λ (k : ℕ). HasNoProgram g) is told.no_program,
        none_told r n (AreSoMany g rank m.issued) is told.all,
        none_told r n (λ (k : ℕ). k ≤ c.args.tries) is told.all_tries,
      ) c.in_ok-clash-in-NoProgram.ensures,
    )

pub returns-in_ok-clash-in-Spent-clause-spent : goal.returns-in_ok-clash-in-Spent-clause-spent
returns-in_ok-clash-in-Spent-clause-spent c =
    let m = c.args.searched in
    let rank = c.deref.result.now in
    let s = c.sought-in-Spent in
    let found : IsFound {X = Conflict} (graph_in m.graph) rank m.issued c.args.tries spent =
    subst (λ (x : Rebuilt). IfSpent x (IsFound {X = Conflict} (graph_in m.graph) rank m.issued c.args.tries spent)) c.in-Spent.is c.in_ok-program.ensures.spent in (
      s.ensures.from,
      spent_by m s.result s.ensures.from rank c.deref.ensures.value c.args.tries c.in_ok-clash-in-Spent.clash s.ensures.tries found c.in_ok-clash-in-Spent.ensures,
    )
