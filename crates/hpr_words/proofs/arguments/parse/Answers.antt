use Rattle.std.proofs.Common.{map, string_bytes}
use Rattle.clap.specs.Words.{app_of}
use Rattle.hpr_words.specs.Arguments.{app_with}
use Rattle.hpr_words.proofs.AskedLemmas.{found_by, refused_by}
use Rattle.hpr_words.proofs.arguments.parse.Goals as goal

pub returns-in_err-try_get_matches_from-clause-refused : goal.returns-in_err-try_get_matches_from-clause-refused
returns-in_err-try_get_matches_from-clause-refused c =
    refused_by (app_of c.in_ok-command_of.field-0) (app_with c.args.name.now c.args.arguments.now) (map string_bytes c.args.words.now) c.in_ok-command_of.ensures c.requires
    c.in_err-try_get_matches_from.field-0.0 c.from_residual-in_err-try_get_matches_from.result c.in_err-try_get_matches_from.ensures.kinds
    c.from_residual-in_err-try_get_matches_from.ensures.1

pub returns-clause-ok : goal.returns-clause-ok
returns-clause-ok c =
    found_by (app_of c.in_ok-command_of.field-0) (app_with c.args.name.now c.args.arguments.now) (map string_bytes c.args.words.now) c.in_ok-command_of.ensures c.requires
    c.in_ok-try_get_matches_from.field-0 c.in_ok-try_get_matches_from.ensures.kinds c.in_ok-try_get_matches_from.ensures.matches
