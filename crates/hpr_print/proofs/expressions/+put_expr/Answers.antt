use Rattle.std.proofs.Common.{◌≡◌, ◌++◌, ℕ, ◌<◌, ◌^◌, ◌||◌, ◌&&◌, ◌==◌, nat_lt, nat_le, rules, arith, ap, ap₂, ◌∙◌, subst, IsUtf8}
use Rattle.std.proofs.lemmas.Result.{on_ok_weaker}
use Rattle.hpr_terms.specs.Term.{num, var, prefix, infix', element}
use Rattle.hpr_terms.specs.TermOf.{term_of}
use Rattle.hpr_syntax.specs.Print.{level_of, level_of_sign, term_text}
use Rattle.hpr_print.proofs.Texts.{piece, var_text, elem_text, prefix_text, infix_text, element_pieces}
use Rattle.hpr_print.proofs.Utf8.{num_utf8, var_utf8, prefix_utf8, bracketed_utf8, infix_utf8, element_utf8, elem_utf8}
use Rattle.hpr_print.proofs.expressions.+put_expr.Goals as goal

pub put_expr-returns-in-Num-clause-utf8 : goal.put_expr-returns-in-Num-clause-utf8
put_expr-returns-in-Num-clause-utf8 t c =
    let is : term_of c.args.expr.now ≡ num c.in-Num.number = ap term_of c.in-Num.is in
    let below : c.in-Num.number < 2 ^ 64 = omega (arith, c.value.ensures.literal) in
    on_ok_weaker c.put_number.result (λ _. num_utf8 (term_of c.args.expr.now) c.in-Num.number is below) c.put_number.ensures

pub put_expr-returns-in_ok-put-in-Prefix-clause-utf8 : goal.put_expr-returns-in_ok-put-in-Prefix-clause-utf8
put_expr-returns-in_ok-put-in-Prefix-clause-utf8 t c =
    let inner = term_of c.expr-inner.result.now in
    let is : term_of c.args.expr.now ≡ prefix c.in-Prefix.op inner = ap term_of c.in-Prefix.is ∙ ap (prefix c.in-Prefix.op) c.expr-inner.ensures in
    let brackets : nat_lt c.level.result 6 ≡ nat_lt (level_of inner) 6 = ap (λ n. nat_lt n 6) c.level.ensures in
    on_ok_weaker c.put_operand.result (λ h. prefix_utf8 (term_of c.args.expr.now) c.in-Prefix.op inner (nat_lt c.level.result 6) is brackets h) c.put_operand.ensures.utf8

-- whether the left operand stands in brackets
left_loose : (t : ℕ) (c : goal.put_expr-After-put_operand-in-Infix-2 t)
    → c.if-level-binds.is_loose
    ≡ (nat_lt (level_of (term_of c.expr-first.result.now)) (level_of_sign c.in-Infix.op) || ((level_of_sign c.in-Infix.op == 3) && (level_of (term_of c.expr-first.result.now) == 3)))
left_loose t c = search rules

pub put_expr-returns-in_ok-put-in-Infix-3-clause-utf8 : goal.put_expr-returns-in_ok-put-in-Infix-3-clause-utf8
put_expr-returns-in_ok-put-in-Infix-3-clause-utf8 t c =
    let op = c.in-Infix.op in
    let first = term_of c.expr-first.result.now in
    let second = term_of c.expr-second.result.now in
    let is : term_of c.args.expr.now ≡ infix' op first second = ap term_of c.in-Infix.is ∙ ap₂ (infix' op) c.expr-first.ensures c.expr-second.ensures in
    let right : nat_le c.level-in-Infix-2.result c.level_of_sign-binds.result ≡ nat_le (level_of second) (level_of_sign op) = ap₂ nat_le c.level-in-Infix-2.ensures c.level_of_sign-binds.ensures in
    on_ok_weaker c.put_operand-in-Infix-2.result
    (λ h. infix_utf8 (term_of c.args.expr.now) op first second c.if-level-binds.is_loose _ is (left_loose t c) right c.in_ok-put_operand-in-Infix.ensures.utf8 h)
    c.put_operand-in-Infix-2.ensures.utf8

pub put_expr-returns-in_ok-put-in-Prefix-clause-text : goal.put_expr-returns-in_ok-put-in-Prefix-clause-text
put_expr-returns-in_ok-put-in-Prefix-clause-text t c =
    let out = c.args.out.now.items in
    let inner = term_of c.expr-inner.result.now in
    let is : term_of c.args.expr.now ≡ prefix c.in-Prefix.op inner = ap term_of c.in-Prefix.is ∙ ap (prefix c.in-Prefix.op) c.expr-inner.ensures in
    let brackets : nat_lt c.level.result 6 ≡ nat_lt (level_of inner) 6 = ap (λ n. nat_lt n 6) c.level.ensures in
    let one = piece out c.put-in-Prefix.new.out.items c.prefix_sign.result.now _ c.in_ok-put-in-Prefix.ensures c.prefix_sign.ensures in
    on_ok_weaker c.put_operand.result (prefix_text (term_of c.args.expr.now) c.in-Prefix.op inner _ out c.put-in-Prefix.new.out.items c.put_operand.new.out.items is brackets one) c.put_operand.ensures.text

pub put_expr-returns-in_ok-put-in-Infix-3-clause-text : goal.put_expr-returns-in_ok-put-in-Infix-3-clause-text
put_expr-returns-in_ok-put-in-Infix-3-clause-text t c =
    let op = c.in-Infix.op in
    let first = term_of c.expr-first.result.now in
    let second = term_of c.expr-second.result.now in
    let is : term_of c.args.expr.now ≡ infix' op first second = ap term_of c.in-Infix.is ∙ ap₂ (infix' op) c.expr-first.ensures c.expr-second.ensures in
    let right : nat_le c.level-in-Infix-2.result c.level_of_sign-binds.result ≡ nat_le (level_of second) (level_of_sign op) = ap₂ nat_le c.level-in-Infix-2.ensures c.level_of_sign-binds.ensures in
    let three = piece c.put-in-Infix.new.out.items c.put-in-Infix-2.new.out.items c.sign.result.now _ c.in_ok-put-in-Infix-2.ensures c.sign.ensures in
    on_ok_weaker c.put_operand-in-Infix-2.result
    (infix_text (term_of c.args.expr.now) op first second c.if-level-binds.is_loose _ c.args.out.now.items c.put_operand-in-Infix.new.out.items c.put-in-Infix.new.out.items
    c.put-in-Infix-2.new.out.items c.put-in-Infix-3.new.out.items c.put_operand-in-Infix-2.new.out.items is (left_loose t c) right c.in_ok-put_operand-in-Infix.ensures.text
    c.in_ok-put-in-Infix.ensures three c.in_ok-put-in-Infix-3.ensures)
    c.put_operand-in-Infix-2.ensures.text

pub put_expr-returns-in-Elem-clause-utf8 : goal.put_expr-returns-in-Elem-clause-utf8
put_expr-returns-in-Elem-clause-utf8 t c =
    let index = term_of c.expr.result.now in
    let is : term_of c.args.expr.now ≡ element c.in-Elem.array index = ap term_of c.in-Elem.is ∙ ap (element c.in-Elem.array) c.expr.ensures in
    on_ok_weaker c.put_element.result (λ h. elem_utf8 (term_of c.args.expr.now) c.in-Elem.array index is h) c.put_element.ensures.utf8

pub put_element-returns-clause-text : goal.put_element-returns-clause-text
put_element-returns-clause-text t c =
    let out = c.args.out.now.items in
    let one = piece out c.put.new.out.items c.as_bytes.result.now _ c.in_ok-put.ensures (c.as_bytes.ensures.value ∙ c.base.ensures) in
    on_ok_weaker c.put-3.result
    (element_pieces out _ c.put.new.out.items c.put-2.new.out.items _ c.put_expr.new.out.items c.put-3.new.out.items one c.in_ok-put-2.ensures (c.in_ok-put_expr.ensures).text)
    c.put-3.ensures

pub put_element-returns-clause-utf8 : goal.put_element-returns-clause-utf8
put_element-returns-clause-utf8 t c =
    let name = subst IsUtf8 c.base.ensures c.base.utf8 in
    on_ok_weaker c.put-3.result (λ _. element_utf8 c.args.array.now (term_text (term_of c.args.index.now)) name (c.in_ok-put_expr.ensures).utf8) c.put-3.ensures

pub put_operand-returns-in_ok-put_expr-clause-utf8 : goal.put_operand-returns-in_ok-put_expr-clause-utf8
put_operand-returns-in_ok-put_expr-clause-utf8 t c =
    on_ok_weaker c.put-then-is_bracketed.result (λ _. bracketed_utf8 c.args.is_bracketed (term_text (term_of c.args.expr.now)) (c.in_ok-put_expr.ensures).utf8) c.put-then-is_bracketed.ensures

pub put_expr-returns-in-Var-clause-text : goal.put_expr-returns-in-Var-clause-text
put_expr-returns-in-Var-clause-text t c =
    let is : term_of c.args.expr.now ≡ var c.in-Var.name = ap term_of c.in-Var.is in
    let name = c.as_bytes.ensures.value ∙ c.text.ensures.text in
    on_ok_weaker c.put.result (λ e. var_text (term_of c.args.expr.now) c.in-Var.name c.args.out.now.items _ is (e ∙ ap (λ x. c.args.out.now.items ++ x) name)) c.put.ensures

pub put_expr-returns-in-Var-clause-utf8 : goal.put_expr-returns-in-Var-clause-utf8
put_expr-returns-in-Var-clause-utf8 t c =
    let is : term_of c.args.expr.now ≡ var c.in-Var.name = ap term_of c.in-Var.is in
    on_ok_weaker c.put.result (λ _. var_utf8 (term_of c.args.expr.now) c.in-Var.name is (subst IsUtf8 c.text.ensures.text c.text.utf8)) c.put.ensures

pub put_expr-returns-in-Elem-clause-text : goal.put_expr-returns-in-Elem-clause-text
put_expr-returns-in-Elem-clause-text t c =
    let index = term_of c.expr.result.now in
    let is : term_of c.args.expr.now ≡ element c.in-Elem.array index = ap term_of c.in-Elem.is ∙ ap (element c.in-Elem.array) c.expr.ensures in
    on_ok_weaker c.put_element.result (elem_text (term_of c.args.expr.now) c.in-Elem.array index c.args.out.now.items _ is) c.put_element.ensures.text
