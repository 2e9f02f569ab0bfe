use Rattle.std.proofs.Common.{◌∙◌, [], Bor, IsTrue, List, ap, arith, length, length-append, map, refl, subst, sym, ℕ}
use Rattle.std.proofs.lemmas.Result.{err_from_is_err_and}
use Rattle.hpr_syntax.specs.Tree.{Tree}
use Rattle.hpr_located.specs.Sources.{standing_of}
use Rattle.hpr_located.specs.declared.source.Source.{Source}
use Rattle.hpr_kit.proofs.LoadLemmas.{halts_too, loaded_too, served}
use Rattle.hpr_kit.proofs.load.load_all.Goals as goal

abbrev none : Bor (List ℕ)
none = record { ref_ptr = (0, 0); now = [] }

pub load-requires : goal.load-requires
load-requires g c =
    subst IsTrue (sym (c.loop-file.invariant.same_names _))
    (served c.args.files.now c.loop-file.file-index none c.loop-file-test.true (g.S.Shelf.serves c.args.shelf.now) c.requires)

pub returns-in_err-program-clause-loads : goal.returns-in_err-program-clause-loads
returns-in_err-program-clause-loads g c =
    let p = err_from_is_err_and c.from_residual.result c.from_residual.ensures.1 in
    let so_far = c.loop-file.invariant in
    rw (p.1, p.2) (halts_too c.args.files.now c.loop-file.file-index none c.loop-file-test.true (g.S.Shelf.files c.args.shelf.now) c.loop-file.programs.items
    (map standing_of c.loop-file.sources.items) so_far.loaded (g.S.Shelf.files c.loop-file.shelf) (g.S.Shelf.faults c.args.shelf.now) (g.S.Shelf.faults c.loop-file.shelf)
    (g.S.Shelf.faults c.load.new.shelf) c.in_err-program.field-0.0 so_far.same_files so_far.same_count c.in_err-program.ensures.loads)

pub loop-file-preserved : goal.loop-file-preserved
loop-file-preserved g c =
    let file = c.in_ok-program.ensures in
    let so_far = c.loop-file.invariant in
    let more = c.in_ok-push_one.ensures in
    let further = c.in_ok-push_one-2.ensures in
    record {
      loaded = loaded_too c.args.files.now c.loop-file.file-index none c.loop-file-test.true (g.S.Shelf.files c.args.shelf.now) c.loop-file.programs.items
          (map standing_of c.loop-file.sources.items) so_far.loaded c.loop-file.sources.items refl (g.S.Shelf.files c.loop-file.shelf) so_far.same_files
          c.in_ok-program.program c.in_ok-program.source _ _ more further _ file.loads.0;
      programs = (let now = ap (λ (ps : List Tree). length ps) more ∙ length-append c.loop-file.programs.items _ in let was = so_far.programs in omega (arith, now, was));
      sources = (let now = ap (λ (ss : List Source). length ss) further ∙ length-append c.loop-file.sources.items _ in let was = so_far.sources in omega (arith, now, was));
      within = omega (arith, c.loop-file-test.true);
      same_files = file.same_files ∙ so_far.same_files;
      same_names = λ n. file.same_names n ∙ so_far.same_names n;
      same_count = file.loads.1 ∙ so_far.same_count;
    }
