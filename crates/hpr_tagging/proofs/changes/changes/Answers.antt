use Rattle.std.proofs.Common.{List, ℕ, ◌+◌, ◌++◌, sym, ap, ◌∙◌, arith}
use Rattle.std.proofs.lemmas.List.{append-nil}
use Rattle.hpr_tagging.specs.declared.changes.Change.{Change}
use Rattle.hpr_tagging.proofs.Steps.{fits_here, fits_add, fits_next, changes_turn, changes_over}
use Rattle.hpr_tagging.proofs.changes.changes.Goals as goal

pub put_at-put-requires : goal.put_at-put-requires
put_at-put-requires c =
    let l = c.loop-lexeme in
    fits_here l.two_before l.before c.args.lexemes.now l.lexeme-index _ l.serial c.loop-lexeme-test.true l.invariant.fits

pub overflow_add-serial : goal.overflow_add-serial
overflow_add-serial c =
    let l = c.loop-lexeme in
    let fits = fits_add l.two_before l.before c.args.lexemes.now l.lexeme-index _ l.serial _ c.loop-lexeme-test.true c.lacking-serial.ensures
    l.invariant.fits in
    omega (arith, fits)

pub loop-lexeme-preserved : goal.loop-lexeme-preserved
loop-lexeme-preserved c =
    let l = c.loop-lexeme in
    let serial = ap (λ (k : ℕ). l.serial + k) c.lacking-serial.ensures in
    record {
      fits = fits_next l.two_before l.before c.args.lexemes.now l.lexeme-index _ l.serial _ c.loop-lexeme-test.true serial l.invariant.fits;
      found = changes_turn c.args.numbering l.serial _ l.two_before l.before c.args.lexemes.now l.lexeme-index _ _ _ l.found.items
          c.push_some.new.items.items c.loop-lexeme-test.true c.put_at-put.ensures c.change_by.ensures serial
          c.in_ok-push_some.ensures
          ∙ l.invariant.found;
    }

pub returns : goal.returns
returns c =
    let l = c.loop-lexeme in
    sym (append-nil l.found.items)
    ∙ ap (λ (xs : List Change). l.found.items ++ xs)
    (sym (changes_over c.args.numbering l.serial l.two_before l.before c.args.lexemes.now l.lexeme-index c.loop-lexeme-test.false)) ∙ l.invariant.found
