-- What the machine of expressions keeps for the reader of bytes, and for machines that hand it their tokens.
--
-- NoOperator r             == no sign that begins with `=` or `>` can stand next
-- reading_is_token_machine == the laws of a machine of tokens hold for `read`
-- reading_live             == from every reading some tokens lead to one at which the expression can end
-- no_semicolon, no_then, no_do == these tokens, behind which an expression ends, never stand in it
-- square_inside            == where `]` stands in an expression, the expression could not end before it
use Rattle.std.proofs.Common.{◌≡◌, ℕ, ◌≤◌, ◌^◌, List, [], ◌∷◌, Bool, true, false, cond, nat_lt, Option, Some, None, is_some, refl, subst, arith, lit<}
use Rattle.std.proofs.lemmas.Bool.{ltb-true, lt-ltb, le-ltb}
use Rattle.hpr_terms.specs.declared.limits.TheConstants.{MAX_OPERATORS}
use Rattle.hpr_terms.specs.declared.expr.Expr.{Expr}
use Rattle.hpr_terms.specs.declared.expr.Expr.TheVariants.{Num, Var, Elem}
use Rattle.hpr_terms.specs.declared.expr.Binary.{Binary}
use Rattle.hpr_terms.specs.declared.expr.Binary.TheVariants as binary
use Rattle.hpr_terms.specs.declared.keyword.Keyword.TheVariants as keyword
use Rattle.hpr_terms.specs.declared.token.Sign.TheVariants as sign
use Rattle.hpr_terms.specs.declared.token.Token.TheVariants.{Word, Name, Number, Mark}
use Rattle.hpr_terms.specs.TermOf.{term_of}
use Rattle.hpr_scan.specs.Machine.{IsTokenMachine, Live, ends, goes}
use Rattle.hpr_expressions.specs.declared.pending.Left.{Left}
use Rattle.hpr_expressions.specs.declared.pending.Pending.{Pending}
use Rattle.hpr_expressions.specs.declared.expression.Outside.{Outside}
use Rattle.hpr_expressions.specs.declared.expression.Outside.TheVariants.{Round, Index}
use Rattle.hpr_expressions.specs.declared.expression.Context.{Context}
use Rattle.hpr_expressions.specs.declared.expression.Reading.{Reading}
use Rattle.hpr_expressions.specs.declared.expression.Reading.TheVariants.{Before, Named, After}
use Rattle.hpr_expressions.specs.Pending.{whole}
use Rattle.hpr_expressions.specs.Expression.{compare_next, index_closed, read, ended_in, can_end}

-- ---- names and numbers

pub guarded : {A : Type 0} (b : Bool) (u : A) → is_some (cond b (Some u) None) ≡ true → b ≡ true
guarded true u e = refl
guarded false u e = absurd cc

pub guards : {A : Type 0} (b : Bool) (u : A) → b ≡ true → is_some (cond b (Some u) None) ≡ true
guards true u e = refl
guards false u e = absurd cc

pub unguarded : {A : Type 0} (b : Bool) (u : A) → b ≡ false → cond b (Some u) None ≡ None
unguarded true u e = absurd cc
unguarded false u e = refl

pub below : (m n limit : ℕ) → m ≤ n → nat_lt n limit ≡ true → nat_lt m limit ≡ true
below m n limit le e = lt-ltb m limit (omega (arith, le, ltb-true n limit e))

names_alike : (r : Reading) (x y : List ℕ) → is_some (read r (Name x)) ≡ is_some (read r (Name y))
unfolding read
names_alike (Before c) x y = refl
names_alike (Named c z) x y = refl
names_alike (After c e) x y = refl

smaller_next : (r : Reading) (m n : ℕ) → m ≤ n → is_some (read r (Number n)) ≡ true → is_some (read r (Number m)) ≡ true
unfolding read
smaller_next (Before c) m n le e = guards (nat_lt m (2 ^ 63)) (After c (Num m)) (below m n (2 ^ 63) le (guarded (nat_lt n (2 ^ 63)) (After c (Num n)) e))
smaller_next (Named c x) m n le e = absurd cc
smaller_next (After c v) m n le e = absurd cc

bounded_next : (r : Reading) (n : ℕ) → 2 ^ 64 ≤ n → read r (Number n) ≡ None
unfolding read
bounded_next (Before c) n le = unguarded (nat_lt n (2 ^ 63)) (After c (Num n)) (le-ltb n (2 ^ 63) (omega (arith, le)))
bounded_next (Named c x) n le = refl
bounded_next (After c v) n le = refl

-- ---- signs that may be the front of a longer one

some_is : {A : Type 0} (x y : A) → Some x ≡ Some y → x ≡ y
some_is x y e = cc

record NoOperator (r : Reading) : Type 0 where
  equal : read r (Mark sign.Equal) ≡ None
  greater : read r (Mark sign.Greater) ≡ None
  greater_equal : read r (Mark sign.GreaterEqual) ≡ None

before_operand : (c : Context) → NoOperator (Before c)
unfolding read
before_operand c = record { equal = refl; greater = refl; greater_equal = refl }

counted_on : (b : Bool) (c : Context) (n : Reading) → cond b (Some (Before c)) None ≡ Some n → NoOperator n
counted_on true c n e = subst NoOperator (some_is _ _ e) (before_operand c)
counted_on false c n e = absurd cc

compared_on : (o : Option Left) (c : Context) (op : Binary) (v : Expr) (n : Reading) → compare_next o c op v ≡ Some n → NoOperator n
compared_on None c op v n e = counted_on (nat_lt c.count MAX_OPERATORS) _ n e
compared_on (Some l) c op v n e = absurd cc

after_less : (r n : Reading) → read r (Mark sign.Less) ≡ Some n → NoOperator n
unfolding read
after_less (Before c) n e = absurd cc
after_less (Named c x) n e = compared_on c.here.compared c binary.Less (Var x) n e
after_less (After c v) n e = compared_on c.here.compared c binary.Less v n e

after_greater : (r n : Reading) → read r (Mark sign.Greater) ≡ Some n → NoOperator n
unfolding read
after_greater (Before c) n e = absurd cc
after_greater (Named c x) n e = compared_on c.here.compared c binary.Greater (Var x) n e
after_greater (After c v) n e = compared_on c.here.compared c binary.Greater v n e

no_colon : (r n : Reading) → read r (Mark sign.Colon) ≡ Some n → ⊥
unfolding read
no_colon (Before c) n e = absurd cc
no_colon (Named c x) n e = absurd cc
no_colon (After c v) n e = absurd cc

pub reading_is_token_machine : IsTokenMachine read
reading_is_token_machine = record {
  names = names_alike;
  smaller = λ r m n one le e. smaller_next r m n le e;
  bounded = bounded_next;
  colon = λ r n e. absurd (no_colon r n e);
  less_equal = λ r n e. (after_less r n e).equal;
  less_greater = λ r n e. (after_less r n e).greater;
  less_greater_equal = λ r n e. (after_less r n e).greater_equal;
  greater = λ r n e. (after_greater r n e).equal;
}

-- ---- the end

abbrev IsLive : Reading → Type 0
IsLive r = Live read can_end r

-- behind an operand, in these brackets
abbrev behind : List Outside → Pending → ℕ → Expr → Reading
behind outer here n v = After (record { outer = outer; here = here; count = n }) v

live_behind : (outer : List Outside) (here : Pending) (n : ℕ) (v : Expr) → IsLive (behind outer here n v)
unfolding read
live_behind [] here n v = ends refl
live_behind (Round q ∷ outer) here n v = goes (Mark sign.Close) (behind outer q n (whole here v)) tt refl (live_behind outer q n (whole here v))
live_behind (Index q x ∷ outer) here n v =
    let element = Elem x (term_of (whole here v)) in
    goes (Mark sign.CloseSquare) (behind outer q n element) tt refl (live_behind outer q n element)

-- behind a name, in these brackets
live_named : (outer : List Outside) (here : Pending) (n : ℕ) (x : List ℕ) → IsLive (Named (record { outer = outer; here = here; count = n }) x)
unfolding read
live_named [] here n x = ends refl
live_named (Round q ∷ outer) here n x = goes (Mark sign.Close) (behind outer q n (whole here (Var x))) tt refl (live_behind outer q n (whole here (Var x)))
live_named (Index q y ∷ outer) here n x =
    let element = Elem y (term_of (whole here (Var x))) in
    goes (Mark sign.CloseSquare) (behind outer q n element) tt refl (live_behind outer q n element)

pub reading_live : (r : Reading) → Live read can_end r
unfolding read
reading_live (Before c) = goes (Number 0) (behind c.outer c.here c.count (Num 0)) (lit< tt) refl (live_behind c.outer c.here c.count (Num 0))
reading_live (Named c x) = live_named c.outer c.here c.count x
reading_live (After c v) = live_behind c.outer c.here c.count v

pub no_semicolon : (r n : Reading) → read r (Mark sign.Semicolon) ≡ Some n → ⊥
unfolding read
no_semicolon (Before c) n e = absurd cc
no_semicolon (Named c x) n e = absurd cc
no_semicolon (After c v) n e = absurd cc

pub no_then : (r n : Reading) → read r (Word keyword.Then) ≡ Some n → ⊥
unfolding read
no_then (Before c) n e = absurd cc
no_then (Named c x) n e = absurd cc
no_then (After c v) n e = absurd cc

pub no_do : (r n : Reading) → read r (Word keyword.Do) ≡ Some n → ⊥
unfolding read
no_do (Before c) n e = absurd cc
no_do (Named c x) n e = absurd cc
no_do (After c v) n e = absurd cc

closed_inside : (os : List Outside) (here : Pending) (count : ℕ) (v : Expr) (n : Reading) → index_closed os here count v ≡ Some n → is_some (ended_in os here v) ≡ false
closed_inside [] here count v n e = absurd cc
closed_inside (o ∷ os) here count v n e = refl

pub square_inside : (r n : Reading) → read r (Mark sign.CloseSquare) ≡ Some n → can_end r ≡ false
unfolding read
square_inside (Before c) n e = refl
square_inside (Named c x) n e = closed_inside c.outer c.here c.count (Var x) n e
square_inside (After c v) n e = closed_inside c.outer c.here c.count v n e
