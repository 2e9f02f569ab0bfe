use Rattle.std.proofs.Common.{◌∙◌, Err, Some, ap, map, option_map, string_bytes, sym}
use Rattle.std.proofs.lemmas.Option.{slice_get-map}
use Rattle.std.specs.Option.{option_copied}
use Rattle.clap.specs.Words.{found_of, is_simple_and_free, rows_of}
use Rattle.hpr_words.specs.Arguments.{app_with}
use Rattle.hpr_words.proofs.AskedLemmas.{same_error}
use Rattle.hprkit_words.specs.Private.Commands.{form_of}
use Rattle.hprkit_words.proofs.AskedLemmas.{reads_refused, reads_taken, taken_not, unnamed}
use Rattle.hprkit_words.proofs.NameLemmas.{is_simple, named_is}
use Rattle.hprkit_words.proofs.RangeLemmas.{ok-range}
use Rattle.hprkit_words.proofs.asked.read_command.Goals as goal

pub parse-requires : goal.parse-requires
parse-requires c =
    let named = sym c.named.ensures ∙ ap (option_map form_of) c.in_ok-command.ensures.ok_part in
    let same = ap (λ name. app_with name c.arguments.result.now) (named_is c.as_str-name.result.now (form_of c.in_ok-command.command) named) ∙ c.arguments.ensures in
    ap is_simple_and_free same ∙ is_simple c.as_str-name.result.now (form_of c.in_ok-command.command) named

pub returns-in_err-command-clause-refused : goal.returns-in_err-command-clause-refused
returns-in_err-command-clause-refused c refused =
    let first = slice_get-map string_bytes c.args.words.now 0 ∙ (ap (option_map string_bytes) (sym c.first.ensures.value ∙ ap option_copied c.in_ok-ok_or.ensures.ok_part) ∙ ap Some (sym c.as_str-name.ensures.value)) in
    unnamed (map string_bytes c.args.words.now) c.as_str-name.result.now first (sym c.named.ensures ∙ ap (option_map form_of) c.in_err-command.ensures.ok_part)

pub returns-in_err-matches-clause-refused : goal.returns-in_err-matches-clause-refused
returns-in_err-matches-clause-refused c refused =
    let first = slice_get-map string_bytes c.args.words.now 0 ∙ (ap (option_map string_bytes) (sym c.first.ensures.value ∙ ap option_copied c.in_ok-ok_or.ensures.ok_part) ∙ ap Some (sym c.as_str-name.ensures.value)) in
    let named = sym c.named.ensures ∙ ap (option_map form_of) c.in_ok-command.ensures.ok_part in
    let same = ap (λ name. app_with name c.arguments.result.now) (named_is c.as_str-name.result.now (form_of c.in_ok-command.command) named) ∙ c.arguments.ensures in
    taken_not (map string_bytes c.args.words.now) c.as_str-name.result.now (form_of c.in_ok-command.command) first named (app_with c.as_str-name.result.now c.arguments.result.now) same
    (c.in_err-matches.ensures.refused (ap Err (same_error c.in_err-matches.field-0.0 c.from_residual-in_err-matches.result c.from_residual-in_err-matches.ensures.1 refused)))

pub returns : goal.returns
returns c =
    let words = map string_bytes c.args.words.now in
    let name = c.as_str-name.result.now in
    let form = form_of c.in_ok-command.command in
    let first = slice_get-map string_bytes c.args.words.now 0 ∙ (ap (option_map string_bytes) (sym c.first.ensures.value ∙ ap option_copied c.in_ok-ok_or.ensures.ok_part) ∙ ap Some (sym c.as_str-name.ensures.value)) in
    let named = sym c.named.ensures ∙ ap (option_map form_of) c.in_ok-command.ensures.ok_part in
    let same = ap (λ n. app_with n c.arguments.result.now) (named_is name form named) ∙ c.arguments.ensures in
    let app = app_with name c.arguments.result.now in
    let rows = rows_of (found_of c.in_ok-matches.matches) in
    record {
      taken = reads_taken words name form first named app same rows c.in_ok-matches.ensures.ok c.asked.result c.asked.ensures;
      in_range = ok-range words c.asked.result (reads_taken words name form first named app same rows c.in_ok-matches.ensures.ok c.asked.result c.asked.ensures);
      refused = reads_refused words name form first named app same rows c.in_ok-matches.ensures.ok c.asked.result c.asked.ensures;
    }
