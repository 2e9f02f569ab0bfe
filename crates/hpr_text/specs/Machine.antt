-- The machine that reads the tokens of a program, by one definition for each place of the grammar.
--
-- In an untagged text a part gets its tag from the machine when it begins. Such a text may have more parts
-- than a program may: they are all counted, and the machine may be told how many of them to keep. Where more
-- have begun it keeps no further part, and its count ends at 2 ^ 64 - 1.
--
-- Found               == what was read so far: the mode, how many parts got their tags from the machine,
--                        whether there is a header, the issued numbers, the open blocks, the parts of the
--                        innermost one, the names of `end`
-- limit               == how many parts the reader keeps
-- keeps l n           == a part that ends is kept where n parts have begun; l is how many may be kept, or
--                        none, where each part is
-- counted l n         == how many parts have begun with one more than n
-- serial_given l n    == the serial of part n; of those past the last that is kept, the serial of that one
-- tag_given l a n     == the tag of part n
-- then_parts a b      == the parts a, and then the parts b
-- then_kept k a b     == the same where b is kept; else a alone
-- with_number a n f   == author a's number is raised to n
-- with_header f       == there is a header
-- with_tag t f        == the tag's author's number is raised to its serial, unless a header says the numbers
-- part_begun l f      == with one more part, which has begun, and its tag, if a part without a tag can begin
-- with_part l t d f   == one more part, which does d
-- in_then t e f       == the first block of a conditional begins
-- in_loop t e f       == the block of a loop begins
-- else_found f        == the second block of a conditional begins, if it can begin here
-- fi_found l f        == a conditional ends, if it can end here
-- od_found l f        == a loop ends, if it can end here
-- with_name x f       == one more variable of `end`
-- index_begins f t x  == the index of a store into the array of the name x begins, if x is a plain name
-- index_ends f t a k o == the index of a store into a ends with the expression o, if there is one, which has
--                         k operators
-- ends_here l f p o   == the expression o, if there is one, ends, which was read for p
-- goes_on f place o   == an expression goes on, at the place that its reading o tells, if there is one
-- array_begins f x    == the brackets of the array of the name x begin, if x is a plain name
-- NAME_next f .. t    == the state after the token t at that place, if the token can stand there
-- next l s t          == the state after the token, if the token can stand next
-- initially mode      == the state before the first token
-- tree_of f           == the tree of what was read
-- shape_of f          == the refusal of the tree's shape, where it has one; parts that are not kept count too
-- accepted s          == the tree, if the program can end here
-- may_end s           == the program can end here
use Rattle.std.specs.Prelude.{ℕ, ◌+◌, ◌-◌, ◌^◌, min, Bool, true, false, nat_lt, nat_le, ◌&&◌, if◌then◌else◌, List, [], ◌∷◌, ◌++◌, length, Option, Some, None}
use Rattle.hpr_terms.specs.declared.limits.TheConstants.{MAX_LEVELS, MAX_PARTS}
use Rattle.hpr_terms.specs.declared.tag.Tag.{Tag}
use Rattle.hpr_terms.specs.declared.expr.Expr.{Expr}
use Rattle.hpr_terms.specs.declared.keyword.Keyword.TheVariants.{Program, Issued, End, If, Then, Else, Fi, While, Do, Od, Write, Out}
use Rattle.hpr_terms.specs.declared.token.Sign.TheVariants.{Colon, Becomes, Dot, Comma, Semicolon, Open, Close, OpenSquare, CloseSquare}
use Rattle.hpr_terms.specs.declared.token.Token.{Token}
use Rattle.hpr_terms.specs.declared.token.Token.TheVariants.{Word, Name, Number, Mark}
use Rattle.hpr_terms.specs.Names.{stream, is_name, array_of}
use Rattle.hpr_syntax.specs.Action.{Action, assigns, writes, stores}
use Rattle.hpr_syntax.specs.Body.{Body, done, action, branch, loop}
use Rattle.hpr_syntax.specs.Issued as issued
use Rattle.hpr_syntax.specs.Tree.{Tree}
use Rattle.hpr_syntax.specs.declared.shape.ShapeError.{ShapeError}
use Rattle.hpr_syntax.specs.declared.shape.ShapeError.TheVariants.{TooManyParts}
use Rattle.hpr_syntax.specs.Shape.{shape}
use Rattle.hpr_text.specs.declared.blocks.Around.{Around}
use Rattle.hpr_text.specs.declared.blocks.Begun.{Begun}
use Rattle.hpr_text.specs.declared.blocks.Begun.TheVariants as begun
use Rattle.hpr_expressions.specs.declared.expression.Reading.{Reading}
use Rattle.hpr_text.specs.declared.form.Mode.{Mode}
use Rattle.hpr_text.specs.declared.form.Mode.TheVariants.{Tagged, Untagged}
use Rattle.hpr_text.specs.declared.found.Found.{Found}
use Rattle.hpr_text.specs.declared.state.Purpose.{Purpose}
use Rattle.hpr_text.specs.declared.state.Purpose.TheVariants.{Assign, Test, Guard, Output, Store}
use Rattle.hpr_text.specs.declared.state.Place.{Place}
use Rattle.hpr_text.specs.declared.state.Place.TheVariants.{Start, AfterProgram, BeforePair, AfterPairAuthor, AfterPairColon, AfterPair, AtPart, AfterAuthor, AfterDot, AfterSerial, AfterColon, AfterTarget, InIndex, AfterIndex, InExpression, AfterEnd, AfterOpen, AfterName, AfterNameOpen, AfterFinal, AfterComma, AtEnd}
use Rattle.hpr_text.specs.declared.state.State.{State}
use Rattle.hpr_expressions.specs.Expression.{start, start_after, counted_in, read, ended, can_end}

abbrev pub limit : Option ℕ
limit = Some MAX_PARTS

abbrev pub keeps : Option ℕ → ℕ → Bool
keeps None n = true
keeps (Some most) n = nat_le n most

abbrev pub counted : Option ℕ → ℕ → ℕ
counted None n = n + 1
counted (Some most) n = min (n + 1) (2 ^ 64 - 1)

abbrev pub serial_given : Option ℕ → ℕ → ℕ
serial_given None n = n
serial_given (Some most) n = min n most

abbrev pub tag_given : Option ℕ → ℕ → ℕ → Tag
tag_given l a n = record { author = a; serial = serial_given l n }

abbrev pub then_parts : Body → Body → Body
then_parts done more = more
then_parts (action t d rest) more = action t d (then_parts rest more)
then_parts (branch t e a b rest) more = branch t e a b (then_parts rest more)
then_parts (loop t e b rest) more = loop t e b (then_parts rest more)

abbrev pub then_kept : Bool → Body → Body → Body
then_kept true parts more = then_parts parts more
then_kept false parts more = parts

abbrev pub with_number : ℕ → ℕ → Found → Found
with_number a n f = record f { issued = issued.raised a n f.issued }

abbrev pub with_header : Found → Found
with_header f = record f { has_header = true }

abbrev pub tag_raised : Bool → Tag → issued.Issued → issued.Issued
tag_raised true t is = is
tag_raised false t is = issued.raised t.author t.serial is

abbrev pub with_tag : Tag → Found → Found
with_tag t f = record f { issued = tag_raised f.has_header t f.issued }

abbrev pub with_count : ℕ → Found → Found
with_count n f = record f { count = n }

-- part n begins, with this tag
abbrev pub given : ℕ → Tag → Found → Found × Tag
given n t f = (with_tag t (with_count n f), t)

abbrev pub begun_in : Option ℕ → Mode → Found → Option (Found × Tag)
begun_in l Tagged f = None
begun_in l (Untagged a) f =
    if nat_lt (length f.blocks) MAX_LEVELS then Some (given (counted l f.count) (tag_given l a (counted l f.count)) f) else None

abbrev pub part_begun : Option ℕ → Found → Option (Found × Tag)
part_begun l f = begun_in l f.mode f

-- what was found, and these parts, if they are kept, behind those
abbrev pub with_parts : Option ℕ → Body → Body → Found → Found
with_parts l before part f = record f { parts = then_kept (keeps l f.count) before part }

abbrev pub with_part : Option ℕ → Tag → Action → Found → Found
with_part l t d f = with_parts l f.parts (action t d done) f

abbrev pub around : Tag → Expr → Found → Around
around t e f = record { before = f.parts; tag = t; test = e }

abbrev pub in_then : Tag → Expr → Found → Found
in_then t e f = record f { blocks = begun.Then (around t e f) ∷ f.blocks; parts = done }

abbrev pub in_loop : Tag → Expr → Found → Found
in_loop t e f = record f { blocks = begun.Loop (around t e f) ∷ f.blocks; parts = done }

-- the block that was innermost ended with a part of the block around it
abbrev pub block_ended : Option ℕ → List Begun → Body → Body → Found → Found
block_ended l blocks before part f = record f { blocks = blocks; parts = then_kept (keeps l f.count) before part }

abbrev pub else_in : List Begun → Found → Option Found
else_in [] f = None
else_in (begun.Then r ∷ os) f = Some (record f { blocks = begun.Else r f.parts ∷ os; parts = done })
else_in (begun.Else r first ∷ os) f = None
else_in (begun.Loop r ∷ os) f = None

abbrev pub fi_in : Option ℕ → List Begun → Found → Option Found
fi_in l [] f = None
fi_in l (begun.Then r ∷ os) f = Some (block_ended l os r.before (branch r.tag r.test f.parts done done) f)
fi_in l (begun.Else r first ∷ os) f = Some (block_ended l os r.before (branch r.tag r.test first f.parts done) f)
fi_in l (begun.Loop r ∷ os) f = None

abbrev pub od_in : Option ℕ → List Begun → Found → Option Found
od_in l [] f = None
od_in l (begun.Then r ∷ os) f = None
od_in l (begun.Else r first ∷ os) f = None
od_in l (begun.Loop r ∷ os) f = Some (block_ended l os r.before (loop r.tag r.test f.parts done) f)

abbrev pub else_found : Found → Option Found
else_found f = else_in f.blocks f

abbrev pub fi_found : Option ℕ → Found → Option Found
fi_found l f = fi_in l f.blocks f

abbrev pub od_found : Option ℕ → Found → Option Found
od_found l f = od_in l f.blocks f

abbrev pub with_name : List ℕ → Found → Found
with_name x f = record f { names = f.names ++ (x ∷ []) }

-- at this place, with this found so far
abbrev pub state_at : Found → Place → State
state_at f p = record { found = f; place = p }

abbrev pub start_next : Found → Token → Option State
start_next f (Word Program) = Some (state_at f AfterProgram)
start_next f _ = None

abbrev pub at_part : Option Found → Option State
at_part None = None
at_part (Some f) = Some (state_at f AtPart)

-- the parts may end only where no block is open
abbrev pub ends_parts : List Begun → Found → Option State
ends_parts [] f = Some (state_at f AfterEnd)
ends_parts (o ∷ os) f = None

abbrev pub colon_next : Found → Tag → Token → Option State
colon_next f t (Name x) = Some (state_at f (AfterTarget t x))
colon_next f t (Word If) = Some (state_at f (InExpression (Test t) start))
colon_next f t (Word While) = Some (state_at f (InExpression (Guard t) start))
colon_next f t (Word Write) = Some (state_at f (InExpression (Output t) start))
colon_next f t _ = None

-- the first token of a part, which has its tag
abbrev pub first_next : Option (Found × Tag) → Token → Option State
first_next None t = None
first_next (Some b) t = colon_next b.0 b.1 t

abbrev pub tag_next : Mode → Found → ℕ → Option State
tag_next Tagged f a = if nat_lt (length f.blocks) MAX_LEVELS && nat_lt a (2 ^ 32) then Some (state_at f (AfterAuthor a)) else None
tag_next (Untagged b) f a = None

abbrev pub part_next : Option ℕ → Found → Token → Option State
part_next l f (Number a) = tag_next f.mode f a
part_next l f (Name x) = first_next (part_begun l f) (Name x)
part_next l f (Word If) = first_next (part_begun l f) (Word If)
part_next l f (Word While) = first_next (part_begun l f) (Word While)
part_next l f (Word Write) = first_next (part_begun l f) (Word Write)
part_next l f (Word End) = ends_parts f.blocks f
part_next l f (Word Else) = at_part (else_found f)
part_next l f (Word Fi) = at_part (fi_found l f)
part_next l f (Word Od) = at_part (od_found l f)
part_next l f _ = None

abbrev pub header_next : Mode → Found → Option State
header_next Tagged f = Some (state_at (with_header f) BeforePair)
header_next (Untagged a) f = None

abbrev pub program_next : Option ℕ → Found → Token → Option State
program_next l f (Word Issued) = header_next f.mode f
program_next l f t = part_next l f t

abbrev pub before_pair_next : Found → Token → Option State
before_pair_next f (Number a) = if nat_lt a (2 ^ 32) then Some (state_at f (AfterPairAuthor a)) else None
before_pair_next f _ = None

abbrev pub pair_author_next : Found → ℕ → Token → Option State
pair_author_next f a (Mark Colon) = Some (state_at f (AfterPairColon a))
pair_author_next f a _ = None

abbrev pub pair_colon_next : Found → ℕ → Token → Option State
pair_colon_next f a (Number n) = if nat_le 1 n && nat_lt n (2 ^ 32) then Some (state_at (with_number a n f) AfterPair) else None
pair_colon_next f a _ = None

abbrev pub pair_next : Option ℕ → Found → Token → Option State
pair_next l f (Mark Comma) = Some (state_at f BeforePair)
pair_next l f t = part_next l f t

abbrev pub author_next : Found → ℕ → Token → Option State
author_next f a (Mark Dot) = Some (state_at f (AfterDot a))
author_next f a _ = None

abbrev pub tag_read : Found → Tag → State
tag_read f t = state_at (with_tag t f) (AfterSerial t)

abbrev pub dot_next : Found → ℕ → Token → Option State
dot_next f a (Number n) = if nat_le 1 n && nat_lt n (2 ^ 32) then Some (tag_read f (record { author = a; serial = n })) else None
dot_next f a _ = None

abbrev pub serial_next : Found → Tag → Token → Option State
serial_next f t (Mark Colon) = Some (state_at f (AfterColon t))
serial_next f t _ = None

abbrev pub index_begins : Found → Tag → List ℕ → Option State
index_begins f t x = if is_name x then Some (state_at f (InIndex t (array_of x) start)) else None

abbrev pub target_next : Found → Tag → List ℕ → Token → Option State
target_next f t x (Mark Becomes) = Some (state_at f (InExpression (Assign t x) start))
target_next f t x (Mark OpenSquare) = index_begins f t x
target_next f t x _ = None

abbrev pub goes_on : Found → (Reading → Place) → Option Reading → Option State
goes_on f place None = None
goes_on f place (Some r) = Some (state_at f (place r))

abbrev pub index_ends : Found → Tag → List ℕ → ℕ → Option Expr → Option State
index_ends f t a k None = None
index_ends f t a k (Some i) = Some (state_at f (AfterIndex t a i k))

-- a bracket ends the index where none is open in it
abbrev pub in_index_next : Found → Tag → List ℕ → Reading → Token → Option State
in_index_next f t a r (Mark CloseSquare) =
    if can_end r then index_ends f t a (counted_in r) (ended r) else goes_on f (InIndex t a) (read r (Mark CloseSquare))
in_index_next f t a r k = goes_on f (InIndex t a) (read r k)

abbrev pub index_next : Found → Tag → List ℕ → Expr → ℕ → Token → Option State
index_next f t a i k (Mark Becomes) = Some (state_at f (InExpression (Store t a i) (start_after k)))
index_next f t a i k _ = None

abbrev pub ends_here : Option ℕ → Found → Purpose → Option Expr → Option State
ends_here l f p None = None
ends_here l f (Assign t x) (Some e) = Some (state_at (with_part l t (assigns x e) f) AtPart)
ends_here l f (Test t) (Some e) = Some (state_at (in_then t e f) AtPart)
ends_here l f (Guard t) (Some e) = Some (state_at (in_loop t e f) AtPart)
ends_here l f (Output t) (Some e) = Some (state_at (with_part l t (writes stream e) f) AtPart)
ends_here l f (Store t a i) (Some e) = Some (state_at (with_part l t (stores a i e) f) AtPart)

abbrev pub expression_next : Option ℕ → Found → Purpose → Reading → Token → Option State
expression_next l f (Assign t x) r (Mark Semicolon) = ends_here l f (Assign t x) (ended r)
expression_next l f (Test t) r (Word Then) = ends_here l f (Test t) (ended r)
expression_next l f (Guard t) r (Word Do) = ends_here l f (Guard t) (ended r)
expression_next l f (Output t) r (Mark Semicolon) = ends_here l f (Output t) (ended r)
expression_next l f (Store t a i) r (Mark Semicolon) = ends_here l f (Store t a i) (ended r)
expression_next l f p r t = goes_on f (InExpression p) (read r t)

abbrev pub end_next : Found → Token → Option State
end_next f (Mark Open) = Some (state_at f AfterOpen)
end_next f _ = None

abbrev pub open_next : Found → Token → Option State
open_next f (Name x) = Some (state_at f (AfterName x))
open_next f (Word Out) = Some (state_at (with_name stream f) AfterFinal)
open_next f (Mark Close) = Some (state_at f AtEnd)
open_next f _ = None

abbrev pub array_begins : Found → List ℕ → Option State
array_begins f x = if is_name x then Some (state_at f (AfterNameOpen (array_of x))) else None

abbrev pub name_next : Found → List ℕ → Token → Option State
name_next f x (Mark OpenSquare) = array_begins f x
name_next f x (Mark Comma) = Some (state_at (with_name x f) AfterComma)
name_next f x (Mark Close) = Some (state_at (with_name x f) AtEnd)
name_next f x _ = None

abbrev pub name_open_next : Found → List ℕ → Token → Option State
name_open_next f a (Mark CloseSquare) = Some (state_at (with_name a f) AfterFinal)
name_open_next f a _ = None

abbrev pub final_next : Found → Token → Option State
final_next f (Mark Comma) = Some (state_at f AfterComma)
final_next f (Mark Close) = Some (state_at f AtEnd)
final_next f _ = None

abbrev pub comma_next : Found → Token → Option State
comma_next f (Name x) = Some (state_at f (AfterName x))
comma_next f (Word Out) = Some (state_at (with_name stream f) AfterFinal)
comma_next f _ = None

abbrev pub next_at : Option ℕ → Found → Place → Token → Option State
next_at l f Start t = start_next f t
next_at l f AfterProgram t = program_next l f t
next_at l f BeforePair t = before_pair_next f t
next_at l f (AfterPairAuthor a) t = pair_author_next f a t
next_at l f (AfterPairColon a) t = pair_colon_next f a t
next_at l f AfterPair t = pair_next l f t
next_at l f AtPart t = part_next l f t
next_at l f (AfterAuthor a) t = author_next f a t
next_at l f (AfterDot a) t = dot_next f a t
next_at l f (AfterSerial g) t = serial_next f g t
next_at l f (AfterColon g) t = colon_next f g t
next_at l f (AfterTarget g x) t = target_next f g x t
next_at l f (InIndex g a r) t = in_index_next f g a r t
next_at l f (AfterIndex g a i k) t = index_next f g a i k t
next_at l f (InExpression p r) t = expression_next l f p r t
next_at l f AfterEnd t = end_next f t
next_at l f AfterOpen t = open_next f t
next_at l f (AfterName x) t = name_next f x t
next_at l f (AfterNameOpen a) t = name_open_next f a t
next_at l f AfterFinal t = final_next f t
next_at l f AfterComma t = comma_next f t
next_at l f AtEnd t = None

unfoldable pub next : Option ℕ → State → Token → Option State
next l s t = next_at l s.found s.place t

abbrev pub nothing_found : Mode → Found
nothing_found m = record { mode = m; count = 0; has_header = false; issued = []; blocks = []; parts = done; names = [] }

abbrev pub initially : Mode → State
initially m = state_at (nothing_found m) Start

abbrev pub tree_of : Found → Tree
tree_of f = record { issued = f.issued; body = f.parts; finals = f.names }

abbrev pub shape_of : Found → Option ShapeError
shape_of f = if nat_lt MAX_PARTS f.count then Some (TooManyParts f.count) else shape (tree_of f)

abbrev pub accepted_at : Found → Place → Option Tree
accepted_at f AtEnd = Some (tree_of f)
accepted_at f _ = None

abbrev pub accepted : State → Option Tree
accepted s = accepted_at s.found s.place

abbrev pub ends_at : Place → Bool
ends_at AtEnd = true
ends_at _ = false

abbrev pub may_end : State → Bool
may_end s = ends_at s.place
