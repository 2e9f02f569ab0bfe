use Rattle.std.proofs.Common.{◌≡◌, ◌<◌, length, get_or, sym, ap, ◌∙◌, arith}
use Rattle.std.specs.List.{insert}
use Rattle.std.proofs.lemmas.List.{get_or_default}
use Rattle.hpr_syntax.specs.Issued.{place_of}
use Rattle.hpr_syntax.proofs.IssuedLemmas.{Stands, raised_insert, raised_same}
use Rattle.hpr_syntax.proofs.issued.raise_rows.Goals as goal
use Rattle.hpr_syntax.proofs.issued.raise_rows.Goals.{else-at-len-via-then-at-len+else-index-author, else-at-len-via-else-at-len}

pub returns-else-index-serial-clause-ok : goal.returns-else-index-serial-clause-ok
returns-else-index-serial-clause-ok c =
    let rows = c.args.rows.now.items in
    let a = c.args.author in
    let at : c.place-at.result ≡ place_of a rows = c.place-at.ensures ∙ ap (place_of a) c.deref.ensures.value in
    let i : c.place-at.result < length rows = omega arith in
    let e = get_or_default rows c.place-at.result (0, 0) c.index.result.now i in
    let f = get_or_default rows c.place-at.result (0, 0) c.index-then-index-author.result.now i in
    sym (raised_same a c.args.serial rows (grind (arith, at, i, e, c.index.ensures, c.if-index-author.true)) (grind (arith, at, i, f, c.index-then-index-author.ensures, c.if-index-serial.false)))

pub returns-in_ok-insert-clause-ok : goal.returns-in_ok-insert-clause-ok
returns-in_ok-insert-clause-ok c =
    let rows = c.args.rows.now.items in
    let a = c.args.author in
    let at : c.place-at.result ≡ place_of a rows = c.place-at.ensures ∙ ap (place_of a) c.deref.ensures.value in
    let miss : Stands a rows (place_of a rows) → ⊥ =
    elim c.else-at-len.branch [
      | else-at-len-via-then-at-len+else-index-author w ↦ λ s.
          let e : w.index.result.now ≡ get_or rows c.place-at.result w.index.result.now = w.index.ensures in
          let d = get_or_default rows (place_of a rows) (0, 0) w.index.result.now s.0 in
          grind (arith, e, d, at, s.1, w.if-index-author.false)
      | else-at-len-via-else-at-len w ↦ λ s. omega (arith, s.0, at, w.if-at-len.false, c.len.ensures)
    ]
    in
    c.in_ok-insert.ensures.items ∙ ap (λ n. insert rows n (a, c.args.serial)) at ∙ sym (raised_insert a c.args.serial rows miss)
