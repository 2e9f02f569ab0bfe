use Rattle.hpr_kit.proofs.DoesLemmas.{asked_ends, checks, formats_done, places_done, renews, tags_done}
use Rattle.hpr_kit.proofs.kit.Goals as goal

pub run_words-requires : goal.run_words-requires
run_words-requires g c = c.requires

pub returns : goal.returns
returns g c = record {
  ends = c.run_words.ensures.ends;
  words = c.run_words.ensures.words;
  formats = λ ask files is told done. formats_done ask files _ _ _ _ _ _ _
      (asked_ends _ ask (g.S.Shelf.files c.args.shelf.now) files _ _ _ _ _ _ _ is told c.run_words.ensures.ends) done;
  checks = λ ask files is told. checks ask files _ _ _ _ _ _ _
      (asked_ends _ ask (g.S.Shelf.files c.args.shelf.now) files _ _ _ _ _ _ _ is told c.run_words.ensures.ends);
  renews = λ ask files is told. renews files _ _ _ _ _ _ _ ask
      (asked_ends _ ask (g.S.Shelf.files c.args.shelf.now) files _ _ _ _ _ _ _ is told c.run_words.ensures.ends);
  places = λ ask files is told done. places_done ask files _ _ _ _ _ _ _
      (asked_ends _ ask (g.S.Shelf.files c.args.shelf.now) files _ _ _ _ _ _ _ is told c.run_words.ensures.ends) done;
  tags = λ ask files is told done. tags_done ask files _ _ _ _ _ _ _
      (asked_ends _ ask (g.S.Shelf.files c.args.shelf.now) files _ _ _ _ _ _ _ is told c.run_words.ensures.ends) done;
  same_files = c.run_words.ensures.same_files;
  same_names = c.run_words.ensures.same_names;
}
