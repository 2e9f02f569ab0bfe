-- What the names and the numbers of a tree have to be.
--
-- IsProperTerm x     == each literal of the expression is at most 9223372036854775807, and each name and each
--                       array in it is a variable
-- IsProperTag t      == author and serial are below TAG_NUMBERS
-- IsProperContent c  == the same of the expressions of what a part says, and the name that it defines is a
--                       variable
-- IsProperBody body  == the same of all tags and expressions of a block, and each name that a part defines is
--                       a variable
-- IsProperPair p     == author and number are below TAG_NUMBERS
-- IsProperIssued ps  == the pairs are issued numbers, and each author and each number is in range
-- IsProper tree      == the same of all that stands in the tree; the authors of its issued numbers ascend,
--                       and the numbers are at least 1
use Rattle.std.specs.Prelude.{ℕ, ◌<◌, ◌^◌, All}
use Rattle.hpr_terms.specs.declared.limits.TheConstants.{TAG_NUMBERS}
use Rattle.hpr_terms.specs.declared.tag.Tag.{Tag}
use Rattle.hpr_terms.specs.Names.{IsVariable}
use Rattle.hpr_terms.specs.Term.{Term, num, var, prefix, infix', element}
use Rattle.hpr_terms.specs.TermOf.{term_of}
use Rattle.hpr_syntax.specs.declared.rows.Content.{Content}
use Rattle.hpr_syntax.specs.declared.rows.Content.TheVariants.{Assign, If, While, Write, Store}
use Rattle.hpr_syntax.specs.Action.{assigns, writes, stores}
use Rattle.hpr_syntax.specs.Body.{Body, done, action, branch, loop}
use Rattle.hpr_syntax.specs.Issued.{Issued, IsIssued}
use Rattle.hpr_syntax.specs.Tree.{Tree}

abbrev pub IsProperTerm : Term → Type 0
IsProperTerm (num n) = n < 2 ^ 63
IsProperTerm (var x) = IsVariable x
IsProperTerm (prefix op a) = IsProperTerm a
IsProperTerm (infix' op a b) = IsProperTerm a × IsProperTerm b
IsProperTerm (element x i) = IsVariable x × IsProperTerm i

abbrev pub IsProperTag : Tag → Type 0
IsProperTag t = (t.author < TAG_NUMBERS) × (t.serial < TAG_NUMBERS)

abbrev pub IsProperContent : Content → Type 0
IsProperContent (Assign x e) = IsVariable x × IsProperTerm (term_of e)
IsProperContent (If e) = IsProperTerm (term_of e)
IsProperContent (While e) = IsProperTerm (term_of e)
IsProperContent (Write x e) = IsVariable x × IsProperTerm (term_of e)
IsProperContent (Store x i e) = IsVariable x × IsProperTerm (term_of i) × IsProperTerm (term_of e)

abbrev pub IsProperBody : Body → Type 0
IsProperBody done = Unit {0}
IsProperBody (action t (assigns x e) rest) = IsProperTag t × IsVariable x × IsProperTerm (term_of e) × IsProperBody rest
IsProperBody (action t (writes x e) rest) = IsProperTag t × IsVariable x × IsProperTerm (term_of e) × IsProperBody rest
IsProperBody (action t (stores x i e) rest) = IsProperTag t × IsVariable x × IsProperTerm (term_of i) × IsProperTerm (term_of e) × IsProperBody rest
IsProperBody (branch t e a b rest) = IsProperTag t × IsProperTerm (term_of e) × IsProperBody a × IsProperBody b × IsProperBody rest
IsProperBody (loop t e b rest) = IsProperTag t × IsProperTerm (term_of e) × IsProperBody b × IsProperBody rest

abbrev pub IsProperPair : ℕ × ℕ → Type 0
IsProperPair p = (p.0 < TAG_NUMBERS) × (p.1 < TAG_NUMBERS)

abbrev pub IsProperIssued : Issued → Type 0
IsProperIssued issued = IsIssued issued × All IsProperPair issued

pub record IsProper (t : Tree) : Type 0 where
  pub ascending : IsIssued t.issued
  pub numbers : All IsProperPair t.issued
  pub body : IsProperBody t.body
  pub finals : All IsVariable t.finals
