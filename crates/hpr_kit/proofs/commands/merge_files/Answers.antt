use Rattle.std.proofs.Common.{◌∷◌, Some, map}
use Rattle.std.proofs.lemmas.Result.{err_from_is_err_and}
use Rattle.hprkit_words.specs.Ask.{merge}
use Rattle.hpr_located.specs.Sources.{standing_of}
use Rattle.hpr_kit.specs.Comes.{MayRead}
use Rattle.hpr_kit.specs.Graphs.{OnGraphs}
use Rattle.hpr_kit.specs.Merges.{IsMergeTold}
use Rattle.hpr_kit.proofs.GraphLemmas.{merge_said}
use Rattle.hpr_kit.proofs.LoadLemmas.{all_halt, of_sources}
use Rattle.hpr_kit.proofs.commands.merge_files.Goals as goal

pub returns-in_err-loaded-clause-halts : goal.returns-in_err-loaded-clause-halts
returns-in_err-loaded-clause-halts g c =
    let base = c.args.base.now in
    let variants = map (λ w. w.now) c.args.variants.now in
    let told = g.S.Shelf.files c.args.shelf.now in
    let e = err_from_is_err_and c.from_residual-in_err-loaded.result c.from_residual-in_err-loaded.ensures.1 in
    rw (e.1, e.2) (all_halt told (MayRead (Some (merge base variants c.args.tries)) told) (base ∷ variants)
    (λ ps ss a. OnGraphs (base ∷ variants) ps (λ gs. IsMergeTold ps c.args.tries ss a) a) _ _ c.in_err-loaded.field-0.0
    (rw c.in_ok-files.ensures at (rw c.as_slice.ensures.value at c.in_err-loaded.ensures.loads)))

pub returns-clause-halts : goal.returns-clause-halts
returns-clause-halts g c =
    let base = c.args.base.now in
    let variants = map (λ w. w.now) c.args.variants.now in
    let told = g.S.Shelf.files c.args.shelf.now in
    let loaded = rw c.in_ok-files.ensures at (rw c.as_slice.ensures.value at c.in_ok-loaded.ensures.loads) in
    of_sources told (MayRead (Some (merge base variants c.args.tries)) told) (base ∷ variants)
    (λ ps ss a. OnGraphs (base ∷ variants) ps (λ gs. IsMergeTold ps c.args.tries ss a) a) c.in_ok-loaded.loaded.programs.items
    (map standing_of c.in_ok-loaded.loaded.sources.items) _ _
    (λ a said. (merge_said (base ∷ variants) c.in_ok-loaded.loaded.programs.items c.args.tries (map standing_of c.in_ok-loaded.loaded.sources.items) a said).taken)
    loaded.0 loaded.1 c.merge_reply.result (rw c.in_ok-files.ensures at (rw c.as_slice-2.ensures.value at c.merge_reply.ensures))
