use Rattle.std.proofs.Common.{IsTrue, refl, None, inl}
use Rattle.hpr_decisions.specs.Sampled.{SampleOutcome}
use Rattle.hpr_app.proofs.SampleLemmas.{unread}
use Rattle.hpr_app.proofs.ServedLemmas.{least_of, most_of, ranged, served_at, served_behind, served_first}
use Rattle.hpr_words.specs.Request.{sample}
use Rattle.hpr_decisions.proofs.KindLemmas.{in_kind, sample_suits}
use Rattle.hpr_app.proofs.commands.decide.Goals as goal

pub returns-in-Integrate-clause-answers : goal.returns-in-Integrate-clause-answers
returns-in-Integrate-clause-answers g c = rw c.in-Integrate.is c.integrate_files.ensures.answers

pub returns-in-IntegrateMany-clause-answers : goal.returns-in-IntegrateMany-clause-answers
returns-in-IntegrateMany-clause-answers g c = rw c.in-IntegrateMany.is (rw c.as_slice.ensures.value at c.integrate_many_files.ensures.answers)

pub returns-in-Run-clause-answers : goal.returns-in-Run-clause-answers
returns-in-Run-clause-answers g c = rw c.in-Run.is (rw c.as_slice-in-Run.ensures.value at c.run_file.ensures.answers)

pub returns-in-Graph-clause-answers : goal.returns-in-Graph-clause-answers
returns-in-Graph-clause-answers g c = rw c.in-Graph.is c.graph_file.ensures.answers

pub returns-in-Slice-clause-answers : goal.returns-in-Slice-clause-answers
returns-in-Slice-clause-answers g c = rw c.in-Slice.is (rw c.as_slice-in-Slice.ensures.value at c.slice_file.ensures.answers)

pub returns-in-Affected-clause-answers : goal.returns-in-Affected-clause-answers
returns-in-Affected-clause-answers g c = rw c.in-Affected.is c.affected_files.ensures.answers

pub returns-in-Trial-clause-answers : goal.returns-in-Trial-clause-answers
returns-in-Trial-clause-answers g c = rw c.in-Trial.is (rw c.as_slice-in-Trial.ensures.value at c.trial_files.ensures.answers)

pub returns-in-Edit-clause-answers : goal.returns-in-Edit-clause-answers
returns-in-Edit-clause-answers g c = rw c.in-Edit.is c.edit_file.ensures.answers

pub returns-in-Tag-clause-answers : goal.returns-in-Tag-clause-answers
returns-in-Tag-clause-answers g c = rw c.in-Tag.is c.tag_file.ensures.answers

pub returns-in-Sample-clause-answers : goal.returns-in-Sample-clause-answers
returns-in-Sample-clause-answers g c =
    rw c.in-Sample.is
    (unread (g.S.Shelf.files c.args.shelf.now) (SampleOutcome c.in-Sample.seed c.in-Sample.parts) (λ file. ⊥) (g.S.Shelf.faults c.args.shelf.now)
    c.sample_seed.result c.sample_seed.ensures)

pub returns-in-Verify-clause-answers : goal.returns-in-Verify-clause-answers
returns-in-Verify-clause-answers g c = rw c.in-Verify.is c.verify_files.ensures.answers

-- each answer is of a kind of the request

pub returns-in-Integrate-clause-kind : goal.returns-in-Integrate-clause-kind
returns-in-Integrate-clause-kind g c = rw c.in-Integrate.is c.integrate_files.ensures.kind

pub returns-in-IntegrateMany-clause-kind : goal.returns-in-IntegrateMany-clause-kind
returns-in-IntegrateMany-clause-kind g c = rw c.in-IntegrateMany.is (rw c.as_slice.ensures.value at c.integrate_many_files.ensures.kind)

pub returns-in-Run-clause-kind : goal.returns-in-Run-clause-kind
returns-in-Run-clause-kind g c = rw c.in-Run.is (rw c.as_slice-in-Run.ensures.value at c.run_file.ensures.kind)

pub returns-in-Graph-clause-kind : goal.returns-in-Graph-clause-kind
returns-in-Graph-clause-kind g c = rw c.in-Graph.is c.graph_file.ensures.kind

pub returns-in-Slice-clause-kind : goal.returns-in-Slice-clause-kind
returns-in-Slice-clause-kind g c = rw c.in-Slice.is (rw c.as_slice-in-Slice.ensures.value at c.slice_file.ensures.kind)

pub returns-in-Affected-clause-kind : goal.returns-in-Affected-clause-kind
returns-in-Affected-clause-kind g c = rw c.in-Affected.is c.affected_files.ensures.kind

pub returns-in-Trial-clause-kind : goal.returns-in-Trial-clause-kind
returns-in-Trial-clause-kind g c = rw c.in-Trial.is (rw c.as_slice-in-Trial.ensures.value at c.trial_files.ensures.kind)

pub returns-in-Edit-clause-kind : goal.returns-in-Edit-clause-kind
returns-in-Edit-clause-kind g c = rw c.in-Edit.is c.edit_file.ensures.kind

pub returns-in-Tag-clause-kind : goal.returns-in-Tag-clause-kind
returns-in-Tag-clause-kind g c = rw c.in-Tag.is c.tag_file.ensures.kind

pub returns-in-Verify-clause-kind : goal.returns-in-Verify-clause-kind
returns-in-Verify-clause-kind g c = rw c.in-Verify.is c.verify_files.ensures.kind

pub returns-in-Sample-clause-kind : goal.returns-in-Sample-clause-kind
returns-in-Sample-clause-kind g c =
    let seed = c.in-Sample.seed in
    let parts = c.in-Sample.parts in
    rw c.in-Sample.is (in_kind (sample seed parts) (SampleOutcome seed parts) (sample_suits seed parts) c.sample_seed.result c.sample_seed.ensures)

-- a request that reads nothing is answered over whatever files; the first file of each other one is read

pub returns-in-Integrate-clause-unread : goal.returns-in-Integrate-clause-unread
returns-in-Integrate-clause-unread g c = rw c.in-Integrate.is (λ none. absurd (none None c.in-Integrate.base.now (inl refl)))

pub returns-in-IntegrateMany-clause-unread : goal.returns-in-IntegrateMany-clause-unread
returns-in-IntegrateMany-clause-unread g c = rw c.in-IntegrateMany.is (λ none. absurd (none None c.in-IntegrateMany.base.now (inl refl)))

pub returns-in-Run-clause-unread : goal.returns-in-Run-clause-unread
returns-in-Run-clause-unread g c = rw c.in-Run.is (rw c.as_slice-in-Run.ensures.value at c.run_file.ensures.unread)

pub returns-in-Graph-clause-unread : goal.returns-in-Graph-clause-unread
returns-in-Graph-clause-unread g c = rw c.in-Graph.is (λ none. absurd (none None c.in-Graph.file.now refl))

pub returns-in-Slice-clause-unread : goal.returns-in-Slice-clause-unread
returns-in-Slice-clause-unread g c = rw c.in-Slice.is (λ none. absurd (none None c.in-Slice.file.now refl))

pub returns-in-Affected-clause-unread : goal.returns-in-Affected-clause-unread
returns-in-Affected-clause-unread g c = rw c.in-Affected.is (λ none. absurd (none None c.in-Affected.base.now (inl refl)))

pub returns-in-Trial-clause-unread : goal.returns-in-Trial-clause-unread
returns-in-Trial-clause-unread g c = rw c.in-Trial.is (rw c.as_slice-in-Trial.ensures.value at c.trial_files.ensures.unread)

pub returns-in-Edit-clause-unread : goal.returns-in-Edit-clause-unread
returns-in-Edit-clause-unread g c = rw c.in-Edit.is (λ none. absurd (none None c.in-Edit.file.now (inl refl)))

pub returns-in-Tag-clause-unread : goal.returns-in-Tag-clause-unread
returns-in-Tag-clause-unread g c = rw c.in-Tag.is (λ none. absurd (none None c.in-Tag.file.now refl))

pub returns-in-Verify-clause-unread : goal.returns-in-Verify-clause-unread
returns-in-Verify-clause-unread g c = rw c.in-Verify.is (λ none. absurd (none None c.in-Verify.base.now (inl refl)))

pub returns-in-Sample-clause-unread : goal.returns-in-Sample-clause-unread
returns-in-Sample-clause-unread g c = rw c.in-Sample.is (λ none. (refl, λ files. c.sample_seed.ensures))

-- what a shelf serves of all files that are asked for, it serves of each; and what is asked is in range

pub integrate_files-requires : goal.integrate_files-requires
integrate_files-requires g c = record {
  base = served_at (λ name. IsTrue (g.S.Shelf.serves c.args.shelf.now name)) 0 _ _ c.in-Integrate.is refl c.requires.serves;
  a = served_at (λ name. IsTrue (g.S.Shelf.serves c.args.shelf.now name)) 1 _ _ c.in-Integrate.is refl c.requires.serves;
  b = served_at (λ name. IsTrue (g.S.Shelf.serves c.args.shelf.now name)) 2 _ _ c.in-Integrate.is refl c.requires.serves;
  tries = (ranged _ _ c.in-Integrate.is c.requires.in_range).0;
}

pub integrate_many_files-requires : goal.integrate_many_files-requires
integrate_many_files-requires g c = record {
  base = served_first (λ name. IsTrue (g.S.Shelf.serves c.args.shelf.now name)) _ _ _ _ c.in-IntegrateMany.is refl c.requires.serves;
  variants = rw c.as_slice.ensures.value (served_behind (λ name. IsTrue (g.S.Shelf.serves c.args.shelf.now name)) _ _ _ _ c.in-IntegrateMany.is refl c.requires.serves);
  least = least_of _ _ _ c.as_slice.ensures.value (ranged _ _ c.in-IntegrateMany.is c.requires.in_range).0;
  most = most_of _ _ _ c.as_slice.ensures.value _ (ranged _ _ c.in-IntegrateMany.is c.requires.in_range).1;
  tries = (ranged _ _ c.in-IntegrateMany.is c.requires.in_range).2;
}

pub run_file-requires : goal.run_file-requires
run_file-requires g c = served_at (λ name. IsTrue (g.S.Shelf.serves c.args.shelf.now name)) 0 _ _ c.in-Run.is refl c.requires.serves

pub graph_file-requires : goal.graph_file-requires
graph_file-requires g c = served_at (λ name. IsTrue (g.S.Shelf.serves c.args.shelf.now name)) 0 _ _ c.in-Graph.is refl c.requires.serves

pub slice_file-requires : goal.slice_file-requires
slice_file-requires g c = served_at (λ name. IsTrue (g.S.Shelf.serves c.args.shelf.now name)) 0 _ _ c.in-Slice.is refl c.requires.serves

pub affected_files-requires : goal.affected_files-requires
affected_files-requires g c = record {
  base = served_at (λ name. IsTrue (g.S.Shelf.serves c.args.shelf.now name)) 0 _ _ c.in-Affected.is refl c.requires.serves;
  a = served_at (λ name. IsTrue (g.S.Shelf.serves c.args.shelf.now name)) 1 _ _ c.in-Affected.is refl c.requires.serves;
}

pub trial_files-requires : goal.trial_files-requires
trial_files-requires g c = record {
  base = served_at (λ name. IsTrue (g.S.Shelf.serves c.args.shelf.now name)) 0 _ _ c.in-Trial.is refl c.requires.serves;
  a = served_at (λ name. IsTrue (g.S.Shelf.serves c.args.shelf.now name)) 1 _ _ c.in-Trial.is refl c.requires.serves;
  b = served_at (λ name. IsTrue (g.S.Shelf.serves c.args.shelf.now name)) 2 _ _ c.in-Trial.is refl c.requires.serves;
  steps = (ranged _ _ c.in-Trial.is c.requires.in_range).1;
}

pub edit_file-requires : goal.edit_file-requires
edit_file-requires g c = record {
  file = served_at (λ name. IsTrue (g.S.Shelf.serves c.args.shelf.now name)) 0 _ _ c.in-Edit.is refl c.requires.serves;
  script = served_at (λ name. IsTrue (g.S.Shelf.serves c.args.shelf.now name)) 1 _ _ c.in-Edit.is refl c.requires.serves;
  author = (ranged _ _ c.in-Edit.is c.requires.in_range).0;
}

pub tag_file-requires : goal.tag_file-requires
tag_file-requires g c = record {
  serves = served_at (λ name. IsTrue (g.S.Shelf.serves c.args.shelf.now name)) 0 _ _ c.in-Tag.is refl c.requires.serves;
  author = (ranged _ _ c.in-Tag.is c.requires.in_range).0;
}

pub verify_files-requires : goal.verify_files-requires
verify_files-requires g c = record {
  base = served_at (λ name. IsTrue (g.S.Shelf.serves c.args.shelf.now name)) 0 _ _ c.in-Verify.is refl c.requires.serves;
  a = served_at (λ name. IsTrue (g.S.Shelf.serves c.args.shelf.now name)) 1 _ _ c.in-Verify.is refl c.requires.serves;
  b = served_at (λ name. IsTrue (g.S.Shelf.serves c.args.shelf.now name)) 2 _ _ c.in-Verify.is refl c.requires.serves;
  offered = served_at (λ name. IsTrue (g.S.Shelf.serves c.args.shelf.now name)) 3 _ _ c.in-Verify.is refl c.requires.serves;
}

pub sample_seed-requires : goal.sample_seed-requires
sample_seed-requires g c =
    let range = ranged _ _ c.in-Sample.is c.requires.in_range in
    (range.1, range.2)
