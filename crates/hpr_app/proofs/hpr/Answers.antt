use Rattle.std.proofs.Common.{◌≡◌, map, string_bytes}
use Rattle.hpr_decisions.proofs.Completeness.{completes, prints_other}
use Rattle.hpr_decisions.specs.Theorem.{KeepsAllMeaning, KeepsMeaning}
use Rattle.hpr_decisions.specs.MergedText.{PrintsMerged}
use Rattle.hpr_decisions.specs.LeftText.{PrintsLeft}
use Rattle.hpr_decisions.specs.SliceTheorem.{DoesSlice}
use Rattle.hpr_decisions.specs.TrialKeeps.{KeepsTrial}
use Rattle.hpr_decisions.specs.VerifyKeeps.{HasVerified}
use Rattle.hpr_decisions.proofs.EndsLemmas.{done_took}
use Rattle.hpr_decisions.proofs.Reported.{conflict_ends, interference_ends, interferes_ends, leaves_ends, no_program_ends, rejected_ends, spent_ends}
use Rattle.hpr_decisions.proofs.Once.{refused_ends}
use Rattle.hpr_decisions.proofs.Theorem.{request_keeps, request_keeps_all, request_fits, request_left, request_verified}
use Rattle.hpr_decisions.proofs.SliceTheorem.{request_does}
use Rattle.hpr_decisions.proofs.TrialTheorem.{trial_keeps, ends_trial}
use Rattle.hpr_decisions.specs.declared.status.Status.{Status}
use Rattle.hpr_decisions.specs.declared.status.Status.TheVariants as status
use Rattle.hpr_words.proofs.WordLemmas.{plain_is_taken}
use Rattle.hpr_app.proofs.EndsLemmas.{ends_asked, read_grew, read_rose, write_grew, write_rose}
use Rattle.hpr_app.proofs.RangeLemmas.{taken_in_range}
use Rattle.hpr_app.proofs.hpr.Goals as goal

not_memory : (s : Status) → s ≡ status.Words → s ≡ status.Memory → ⊥
not_memory s words memory = absurd cc

pub run_words-requires : goal.run_words-requires
run_words-requires g c = c.requires

pub returns : goal.returns
returns g c = record {
  ends = c.run_words.ensures.ends;
  same_files = c.run_words.ensures.same_files;
  same_names = c.run_words.ensures.same_names;
  words = c.run_words.ensures.words;
  plain = λ asked is. λ words.
      plain_is_taken (map string_bytes c.args.words.now) asked is ((c.run_words.ensures.words (not_memory _ words)).0 words);
  read = λ failed. read_rose _ _ _ _ _ _ _ failed c.run_words.ensures.ends;
  write = λ failed. write_rose _ _ _ _ _ _ _ failed c.run_words.ensures.ends;
  read_grew = λ low. read_grew _ _ _ _ _ _ _ c.run_words.ensures.ends low;
  write_grew = λ low. write_grew _ _ _ _ _ _ _ c.run_words.ensures.ends low;
  status = c.run_words.ensures.status;
  unread = c.run_words.ensures.unread;
  unread_count = c.run_words.ensures.unread_count;
  complete = λ asked fs is told read written. completes asked fs _ _ _ _ _ read written _
      (ends_asked _ asked (g.S.Shelf.files c.args.shelf.now) fs _ _ _ _ _ _ is told c.run_words.ensures.ends);
  one_side = λ asked fs is told read written. prints_other asked fs _ _ _ _ _ read written (taken_in_range (map string_bytes c.args.words.now) asked is) _
      (ends_asked _ asked (g.S.Shelf.files c.args.shelf.now) fs _ _ _ _ _ _ is told c.run_words.ensures.ends);
  conflict = λ asked fs is told conflicts read written. conflict_ends asked fs _ _ _ _ _ conflicts read written _
      (ends_asked _ asked (g.S.Shelf.files c.args.shelf.now) fs _ _ _ _ _ _ is told c.run_words.ensures.ends);
  interferes = λ asked fs is told cs interferes read written. interferes_ends asked fs _ _ _ _ _ cs interferes read written _
      (ends_asked _ asked (g.S.Shelf.files c.args.shelf.now) fs _ _ _ _ _ _ is told c.run_words.ensures.ends);
  interference = λ asked fs is told interfered. interference_ends asked fs _ _ _ _ _ _ interfered
      (ends_asked _ asked (g.S.Shelf.files c.args.shelf.now) fs _ _ _ _ _ _ is told c.run_words.ensures.ends);
  no_program = λ asked fs is told none. no_program_ends asked fs _ _ _ _ _ _ none
      (ends_asked _ asked (g.S.Shelf.files c.args.shelf.now) fs _ _ _ _ _ _ is told c.run_words.ensures.ends);
  spent = λ asked fs is told over. spent_ends asked fs _ _ _ _ _ _ over
      (ends_asked _ asked (g.S.Shelf.files c.args.shelf.now) fs _ _ _ _ _ _ is told c.run_words.ensures.ends);
  leaves = λ asked fs is told over. leaves_ends asked fs _ _ _ _ _ _ over
      (ends_asked _ asked (g.S.Shelf.files c.args.shelf.now) fs _ _ _ _ _ _ is told c.run_words.ensures.ends);
  refused = λ message asked fs is told refused read. refused_ends asked fs _ _ _ _ _ message refused read _
      (ends_asked _ asked (g.S.Shelf.files c.args.shelf.now) fs _ _ _ _ _ _ is told c.run_words.ensures.ends);
  keeps = λ asked fs is told done. done_took KeepsMeaning request_keeps asked fs _ _ _ _ _ _ done
      (ends_asked _ asked (g.S.Shelf.files c.args.shelf.now) fs _ _ _ _ _ _ is told c.run_words.ensures.ends);
  keeps_all = λ asked fs is told done. done_took KeepsAllMeaning request_keeps_all asked fs _ _ _ _ _ _ done
      (ends_asked _ asked (g.S.Shelf.files c.args.shelf.now) fs _ _ _ _ _ _ is told c.run_words.ensures.ends);
  merged = λ asked fs is told done. done_took PrintsMerged request_fits asked fs _ _ _ _ _ _ done
      (ends_asked _ asked (g.S.Shelf.files c.args.shelf.now) fs _ _ _ _ _ _ is told c.run_words.ensures.ends);
  left = λ asked fs is told done. done_took PrintsLeft request_left asked fs _ _ _ _ _ _ done
      (ends_asked _ asked (g.S.Shelf.files c.args.shelf.now) fs _ _ _ _ _ _ is told c.run_words.ensures.ends);
  slices = λ asked fs is told done. done_took DoesSlice request_does asked fs _ _ _ _ _ _ done
      (ends_asked _ asked (g.S.Shelf.files c.args.shelf.now) fs _ _ _ _ _ _ is told c.run_words.ensures.ends);
  trial_ends = λ asked fs is told. ends_trial asked fs _ _ _ _ _ _
      (ends_asked _ asked (g.S.Shelf.files c.args.shelf.now) fs _ _ _ _ _ _ is told c.run_words.ensures.ends);
  trial = λ asked fs is told done. done_took KeepsTrial trial_keeps asked fs _ _ _ _ _ _ done
      (ends_asked _ asked (g.S.Shelf.files c.args.shelf.now) fs _ _ _ _ _ _ is told c.run_words.ensures.ends);
  verified = λ asked fs is told done. (done_took (λ request files bytes. HasVerified request files) request_verified asked fs _ _ _ _ _ _ done
      (ends_asked _ asked (g.S.Shelf.files c.args.shelf.now) fs _ _ _ _ _ _ is told c.run_words.ensures.ends)).2;
  rejected = λ asked fs is told rejected. rejected_ends asked fs _ _ _ _ _ _ rejected
      (ends_asked _ asked (g.S.Shelf.files c.args.shelf.now) fs _ _ _ _ _ _ is told c.run_words.ensures.ends);
}
