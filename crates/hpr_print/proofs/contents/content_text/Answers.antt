use Rattle.std.proofs.Common.{rules, ◌≡◌, ◌++◌, IsUtf8, List, ℕ, codes, sym, subst}
use Rattle.hpr_terms.specs.TermOf.{term_of}
use Rattle.hpr_syntax.specs.Print.{term_text, element_text}
use Rattle.hpr_print.proofs.Utf8.{assignment_utf8, if_utf8, while_utf8, write_utf8}
use Rattle.hpr_print.proofs.contents.content_text.Goals as goal
use Rattle.hpr_print.proofs.contents.content_text.Goals.{in-Assign+in_ok-put-in-Assign+in_ok-put-in-Assign-2+in_ok-put_expr-in-Assign, in-If+in_ok-put-in-If+in_ok-put_expr-in-If, in-While+in_ok-put-in-While+in_ok-put_expr-in-While, in-Write+in_ok-put-in-Write+in_ok-put_expr-in-Write, in-Store+in_ok-put_element-in-Store+in_ok-put-in-Store+in_ok-put_expr-in-Store}

pub returns-clause-utf8 : goal.returns-clause-utf8
returns-clause-utf8 c =
    let out : List ℕ = c.match-content.out.items in
    elim c.match-content.branch [
      | in-Assign+in_ok-put-in-Assign+in_ok-put-in-Assign-2+in_ok-put_expr-in-Assign w ↦
          (let e : out ≡ w.text.result.now ++ codes " := " ++ term_text (term_of w.in-Assign.value) = search rules in
          subst IsUtf8 (sym e) (assignment_utf8 w.text.result.now (term_text (term_of w.in-Assign.value)) w.text.utf8 (w.in_ok-put_expr-in-Assign.ensures).utf8))
      | in-If+in_ok-put-in-If+in_ok-put_expr-in-If w ↦
          (let e : out ≡ codes "if " ++ term_text (term_of w.in-If.test) = search rules in
          subst IsUtf8 (sym e) (if_utf8 (term_text (term_of w.in-If.test)) (w.in_ok-put_expr-in-If.ensures).utf8))
      | in-While+in_ok-put-in-While+in_ok-put_expr-in-While w ↦
          (let e : out ≡ codes "while " ++ term_text (term_of w.in-While.test) = search rules in
          subst IsUtf8 (sym e) (while_utf8 (term_text (term_of w.in-While.test)) (w.in_ok-put_expr-in-While.ensures).utf8))
      | in-Write+in_ok-put-in-Write+in_ok-put_expr-in-Write w ↦
          (let e : out ≡ codes "write " ++ term_text (term_of w.in-Write.value) = search rules in
          subst IsUtf8 (sym e) (write_utf8 (term_text (term_of w.in-Write.value)) (w.in_ok-put_expr-in-Write.ensures).utf8))
      | in-Store+in_ok-put_element-in-Store+in_ok-put-in-Store+in_ok-put_expr-in-Store w ↦
          (let stored = element_text w.in-Store.array (term_text (term_of w.in-Store.index)) in
          let e : out ≡ stored ++ codes " := " ++ term_text (term_of w.in-Store.value) = search rules in
          subst IsUtf8 (sym e) (assignment_utf8 stored (term_text (term_of w.in-Store.value)) (w.in_ok-put_element-in-Store.ensures).utf8 (w.in_ok-put_expr-in-Store.ensures).utf8))
    ]
