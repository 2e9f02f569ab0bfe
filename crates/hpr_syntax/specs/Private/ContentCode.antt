-- Numbers that tell contents apart.
--
-- content_parts == what a part says, taken apart; content_back puts it together again
-- content_same  == it is then the same
-- content_coded == what parts say, with their codes
use Rattle.std.specs.Prelude.{◌≡◌, ℕ, ◌⊎◌, List}
use Rattle.std.proofs.Common.{inl, inr, ap}
use Rattle.std.specs.Coded.{Coded, code_by, coded×, coded⊎, coded_ℕ, coded_list}
use Rattle.hpr_terms.specs.Term.{Term}
use Rattle.hpr_terms.specs.TermOf.{term_of}
use Rattle.hpr_terms.specs.Private.TermCode.{term_coded}
use Rattle.hpr_terms.specs.Private.ExprCode.{expr_of, expr_of-term_of}
use Rattle.hpr_syntax.specs.declared.rows.Content.{Content}
use Rattle.hpr_syntax.specs.declared.rows.Content.TheVariants.{Assign, If, While, Write, Store}

abbrev pub content_parts : Content → (List ℕ × Term) ⊎ (Term ⊎ (Term ⊎ ((List ℕ × Term) ⊎ (List ℕ × (Term × Term)))))
content_parts (Assign x e) = inl (x, term_of e)
content_parts (If e) = inr (inl (term_of e))
content_parts (While e) = inr (inr (inl (term_of e)))
content_parts (Write x e) = inr (inr (inr (inl (x, term_of e))))
content_parts (Store x i e) = inr (inr (inr (inr (x, (term_of i, term_of e)))))

abbrev pub content_back : (List ℕ × Term) ⊎ (Term ⊎ (Term ⊎ ((List ℕ × Term) ⊎ (List ℕ × (Term × Term))))) → Content
content_back (inl a) = Assign a.0 (expr_of a.1)
content_back (inr (inl t)) = If (expr_of t)
content_back (inr (inr (inl t))) = While (expr_of t)
content_back (inr (inr (inr (inl a)))) = Write a.0 (expr_of a.1)
content_back (inr (inr (inr (inr a)))) = Store a.0 (expr_of a.1.0) (expr_of a.1.1)

pub content_same : (c : Content) → content_back (content_parts c) ≡ c
content_same (Assign x e) = ap (Assign x) (expr_of-term_of e)
content_same (If e) = ap If (expr_of-term_of e)
content_same (While e) = ap While (expr_of-term_of e)
content_same (Write x e) = ap (Write x) (expr_of-term_of e)
content_same (Store x i e) = λ k. Store x (expr_of-term_of i k) (expr_of-term_of e k)

abbrev pub content_coded : Coded Content
content_coded =
    code_by ((List ℕ × Term) ⊎ (Term ⊎ (Term ⊎ ((List ℕ × Term) ⊎ (List ℕ × (Term × Term))))))
    (coded⊎ (coded× (coded_list coded_ℕ) term_coded)
    (coded⊎ term_coded (coded⊎ term_coded (coded⊎ (coded× (coded_list coded_ℕ) term_coded) (coded× (coded_list coded_ℕ) (coded× term_coded term_coded))))))
    content_parts content_back content_same
