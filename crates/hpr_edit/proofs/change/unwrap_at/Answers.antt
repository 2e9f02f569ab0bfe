use Rattle.std.proofs.Common.{◌≡◌, ◌<◌, ◌+◌, ap, sym, ◌∙◌, arith, length, get_or, take, drop, ◌++◌}
use Rattle.std.specs.List.{remove}
use Rattle.hpr_syntax.specs.BodyOf.{body_of}
use Rattle.hpr_edit.proofs.Lists.{count_of, spliced}
use Rattle.hpr_edit.proofs.change.unwrap_at.Goals as goal

pub append_all-requires : goal.append_all-requires
append_all-requires c =
    let xs = c.args.stmts.now.items in
    let fs = c.into_stmts.result in
    let ss = c.into_stmts-2.result in
    let d = c.remove-part.result in
    let h : c.args.at < length xs = grind (arith, c.requires) in
    let tail = c.in_ok-rest.ensures.tail ∙ ap (drop c.args.at) c.reserve.ensures.items in
    let all : c.count_in.result ≡ length fs.items + length ss.items =
    count_of c.args.at c.count_in.result xs fs.items ss.items d c.index.result.now h (c.remove-part.ensures.value ∙ ap (λ l. get_or l 0 d) tail)
    c.index.ensures c.count_in.ensures (sym c.into_stmts.ensures ∙ c.take_blocks-first.ensures.first)
    (sym c.into_stmts-2.ensures ∙ c.take_blocks-first.ensures.second) in
    let cut = c.in_ok-rest.ensures in
    omega (
      arith,
      all,
      c.in_ok-reserve.ensures.ok,
      cut.len,
      cut.tail_len,
      c.split_off.ensures.capacity,
      c.remove-part.ensures.len,
      fs.ok.0,
      ss.ok.0,
      c.reserve.ensures.len,
    )

pub returns-clause-changed : goal.returns-clause-changed
returns-clause-changed c =
    let at = c.args.at in
    let xs = c.args.stmts.now.items in
    let fs = c.into_stmts.result.items in
    let ss = c.into_stmts-2.result.items in
    let d = c.remove-part.result in
    let h : at < length xs = grind (arith, c.requires) in
    let tail = c.in_ok-rest.ensures.tail ∙ ap (drop at) c.reserve.ensures.items in
    let items = c.in_ok-rest.ensures.items ∙ ap (take at) c.reserve.ensures.items in
    ap body_of c.append_all.ensures
    ∙ ap (λ ys. body_of (((ys ++ fs) ++ ss) ++ c.remove-part.new.self.items)) items
    ∙ spliced at xs fs ss c.remove-part.new.self.items d h (c.remove-part.ensures.value ∙ ap (λ l. get_or l 0 d) tail) (c.remove-part.ensures.items ∙ ap (λ l. remove l 0) tail)
    (sym c.into_stmts.ensures ∙ c.take_blocks-first.ensures.first) (sym c.into_stmts-2.ensures ∙ c.take_blocks-first.ensures.second)
