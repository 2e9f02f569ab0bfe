-- What waits for an operand, within one bracket of an expression.
--
-- nothing_pending      == nothing waits
-- joined left e        == the left operand, its sign and e, or e where there is no left operand
-- prefixed ops e       == the prefixes before e, the last one first
-- last_term p e        == the term that ends with e behind what waits
-- last_sum p e         == the sum that ends with e
-- last_comparison p e  == the comparison that ends with e
-- last_and p e         == the operand of `or` that ends with e
-- whole p e            == all that stands in the bracket, where it ends with e
-- left_of op e         == the left operand e with the sign op behind it
-- with_LEVEL p op e    == what waits behind e and a sign of this level
-- with_prefix p op     == what waits behind one more prefix
use Rattle.std.specs.Prelude.{List, [], ◌∷◌, Option, Some, None}
use Rattle.hpr_terms.specs.declared.expr.Expr.{Expr}
use Rattle.hpr_terms.specs.declared.expr.Expr.TheVariants.{Prefix, Infix}
use Rattle.hpr_terms.specs.declared.expr.Unary.{Unary}
use Rattle.hpr_terms.specs.declared.expr.Binary.{Binary}
use Rattle.hpr_terms.specs.TermOf.{term_of}
use Rattle.hpr_expressions.specs.declared.pending.Left.{Left}
use Rattle.hpr_expressions.specs.declared.pending.Pending.{Pending}

abbrev pub nothing_pending : Pending
nothing_pending = record { ors = None; ands = None; compared = None; summed = None; multiplied = None; prefixes = [] }

abbrev pub joined : Option Left → Expr → Expr
joined None e = e
joined (Some l) e = Infix l.op (term_of l.left) (term_of e)

abbrev pub prefixed : List Unary → Expr → Expr
prefixed [] e = e
prefixed (op ∷ ops) e = prefixed ops (Prefix op (term_of e))

abbrev pub last_term : Pending → Expr → Expr
last_term p e = joined p.multiplied (prefixed p.prefixes e)

abbrev pub last_sum : Pending → Expr → Expr
last_sum p e = joined p.summed (last_term p e)

abbrev pub last_comparison : Pending → Expr → Expr
last_comparison p e = joined p.compared (last_sum p e)

abbrev pub last_and : Pending → Expr → Expr
last_and p e = joined p.ands (last_comparison p e)

abbrev pub whole : Pending → Expr → Expr
whole p e = joined p.ors (last_and p e)

abbrev pub left_of : Binary → Expr → Option Left
left_of op e = Some (record { op = op; left = e })

abbrev pub with_or : Pending → Binary → Expr → Pending
with_or p op e = record { ors = left_of op (whole p e); ands = None; compared = None; summed = None; multiplied = None; prefixes = [] }

abbrev pub with_and : Pending → Binary → Expr → Pending
with_and p op e = record { ors = p.ors; ands = left_of op (last_and p e); compared = None; summed = None; multiplied = None; prefixes = [] }

abbrev pub with_comparison : Pending → Binary → Expr → Pending
with_comparison p op e =
    record { ors = p.ors; ands = p.ands; compared = left_of op (last_sum p e); summed = None; multiplied = None; prefixes = [] }

abbrev pub with_sum : Pending → Binary → Expr → Pending
with_sum p op e =
    record { ors = p.ors; ands = p.ands; compared = p.compared; summed = left_of op (last_sum p e); multiplied = None; prefixes = [] }

abbrev pub with_term : Pending → Binary → Expr → Pending
with_term p op e =
    record { ors = p.ors; ands = p.ands; compared = p.compared; summed = p.summed; multiplied = left_of op (last_term p e); prefixes = [] }

abbrev pub with_prefix : Pending → Unary → Pending
with_prefix p op =
    record { ors = p.ors; ands = p.ands; compared = p.compared; summed = p.summed; multiplied = p.multiplied; prefixes = op ∷ p.prefixes }
