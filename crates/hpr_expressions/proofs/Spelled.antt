-- What is read is spelled, token after token.
use Rattle.std.proofs.Common.{◌≡◌, ℕ, List, [], ◌∷◌, ◌++◌, ◌≤◌, Option, Some, None, refl, subst, append_assoc, arith}
use Rattle.std.proofs.lemmas.List.{append-nil}
use Rattle.hpr_terms.specs.declared.limits.TheConstants.{MAX_OPERATORS}
use Rattle.hpr_terms.specs.declared.token.Token.{Token}
use Rattle.hpr_terms.proofs.Facts.{some_inj}
use Rattle.hpr_scan.specs.Steps.{and_then, runs}
use Rattle.hpr_expressions.specs.declared.expression.Reading.{Reading}
use Rattle.hpr_expressions.specs.Expression.{start_after, read}
use Rattle.hpr_expressions.specs.Read.{ReadAsSpelled, ReadAsSpelledAfter}
use Rattle.hpr_expressions.proofs.SoundExpression.{ReadingIs, start_is, read_is, ended_is, count_is}
use Rattle.hpr_expressions.proofs.WholeExpression.{expression_read, expression_read_after}

runs_at : (k : ℕ) (r : Reading) (t : Token) (past ts : List Token) (o : Option Reading) (n : Reading) → ReadingIs k r past → read r t ≡ o → and_then o (λ m. runs read m ts) ≡ Some n
    → ((m : Reading) → ReadingIs k m (past ++ (t ∷ [])) → runs read m ts ≡ Some n → ReadingIs k n ((past ++ (t ∷ [])) ++ ts)) → ReadingIs k n (past ++ (t ∷ ts))
runs_at k r t past ts None n h e q go = absurd cc
runs_at k r t past ts (Some m) n h e q go = rw append_assoc at (go m (read_is k r t m past h e) q)

runs_is : (k : ℕ) (r : Reading) (past ts : List Token) (n : Reading) → ReadingIs k r past → runs read r ts ≡ Some n → ReadingIs k n (past ++ ts)
runs_is k r past [] n h e = rw append-nil (subst (λ (m : Reading). ReadingIs k m past) (some_inj r n e) h)
runs_is k r past (t ∷ ts) n h e = runs_at k r t past ts (read r t) n h refl e (λ m is q. runs_is k m (past ++ (t ∷ [])) ts n is q)

-- after the tokens of a reading from the start
run_is : (k : ℕ) (ts : List Token) (r : Reading) → k ≤ MAX_OPERATORS → runs read (start_after k) ts ≡ Some r → ReadingIs k r ts
run_is k ts r le e = runs_is k (start_after k) [] ts r (start_is k le) e

pub read_as_spelled_after : ReadAsSpelledAfter
read_as_spelled_after = record {
  whole = expression_read_after;
  sound = λ k ts e le h. ended_is k h.0 e ts (run_is k ts h.0 le h.1) h.2;
  counts = λ k ts e r le h q. count_is k r e ts (run_is k ts r le h) q;
}

pub read_as_spelled : ReadAsSpelled
read_as_spelled = record {
  whole = expression_read;
  sound = λ ts e h. let s = read_as_spelled_after.sound 0 ts e (omega arith) h in (s.0, omega (arith, s.1));
}
