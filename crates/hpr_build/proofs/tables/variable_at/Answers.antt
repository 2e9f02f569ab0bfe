use Rattle.std.proofs.Common.{◌≡◌, ◌↔◌, ◌<◌, ◌≤◌, ℕ, Some, List, Vec, Global, Contains, length, get_or, slice_get, ap, sym, ◌∙◌, subst, arith}
use Rattle.std.proofs.lemmas.List.{get_or_default}
use Rattle.std.proofs.lemmas.Option.{slice_get-get_or}
use Rattle.hpr_paths.specs.Spots.{defined_at, UsesAt}
use Rattle.hpr_paths.specs.Successors.{spots}
use Rattle.hpr_graph.specs.Graphs.{IsOnce}
use Rattle.hpr_build.specs.Links.{exit_of}
use Rattle.hpr_build.specs.Variables.{points_at}
use Rattle.hpr_build.proofs.tables.variable_at.Goals as goal

pub returns-clause-variable : goal.returns-clause-variable
returns-clause-variable c =
    let t = c.args.tables.now in
    let at = c.args.at in
    let x : List ℕ = c.index.result.now in
    let names = t.variables.names.items in
    let here : at < length names = omega (arith, c.requires.at, t.variables.names.ok.0) in
    let get : slice_get names at ≡ Some x = slice_get-get_or names at x here ∙ ap (λ (y : List ℕ). Some y) (sym c.index.ensures) in
    let definitions : c.row_at.result.now ≡ points_at t.variables.definitions.items at = c.row_at.ensures ∙ ap (λ (rows : List (Vec ℕ Global)). points_at rows at) c.deref.ensures.value in
    let users : c.row_at-2.result.now ≡ points_at t.variables.users.items at = c.row_at-2.ensures ∙ ap (λ (rows : List (Vec ℕ Global)). points_at rows at) c.deref-2.ensures.value in
    let defines = c.requires.tables.definitions at x get in
    let uses = c.requires.tables.users at x get in
    let numbers = c.requires.tables.finals at x get in
    let number : c.index-2.result.now ≡ get_or t.final_numbers.items at 0 = c.index-2.ensures ∙ get_or_default t.final_numbers.items at c.index-2.result.now 0
    (omega (arith, here, c.requires.tables.final_rows, t.final_numbers.ok.0, t.variables.names.ok.0)) in
    record {
      definitions_once = subst (λ (ps : List ℕ). IsOnce ps) (sym definitions) defines.0;
      definitions = λ p. subst (λ (ps : List ℕ). Contains ps p ↔ (defined_at (spots t.program.now) p ≡ Some x)) (sym definitions) (defines.1 p);
      users_once = subst (λ (ps : List ℕ). IsOnce ps) (sym users) uses.0;
      users = λ p. subst (λ (ps : List ℕ). Contains ps p ↔ UsesAt (spots t.program.now) p x) (sym users) (uses.1 p);
      low = subst (λ (n : ℕ). exit_of t.program.now ≤ n) (sym number) numbers.0;
      final = λ k there. number ∙ numbers.1 k there;
    }
