use Rattle.std.proofs.Common.{refl}
use Rattle.std.proofs.lemmas.List.Sums.{prefix_len-le-length}
use Rattle.hpr_terms.specs.Tokens.{is_blank}
use Rattle.hpr_scan.specs.Scanner.{goes_on_comment, feeds}
use Rattle.hpr_scan.proofs.Runs.{blanks_feed, blanks_wait, comment_feeds, comment_waits, nothing_waits}
use Rattle.hpr_scan.proofs.scanner.Scanner.count_waiting.Goals as goal

pub returns-in-Gap-clause-within : goal.returns-in-Gap-clause-within
returns-in-Gap-clause-within g c = rw c.count_blanks.ensures (prefix_len-le-length is_blank c.args.bytes.now)

pub returns-in-Gap-clause-fed : goal.returns-in-Gap-clause-fed
returns-in-Gap-clause-fed g c = rw c.count_blanks.ensures (blanks_feed g.M.TokenMachine.next c.args.self.now.lex c.args.self.now.machine c.args.bytes.now c.in-Gap.is)

pub returns-in-Gap-clause-waits : goal.returns-in-Gap-clause-waits
returns-in-Gap-clause-waits g c = rw c.count_blanks.ensures (blanks_wait g.M.TokenMachine.next c.args.self.now.lex c.args.self.now.machine c.args.bytes.now c.in-Gap.is)

pub returns-in-Comment-clause-within : goal.returns-in-Comment-clause-within
returns-in-Comment-clause-within g c = rw c.count_comment.ensures (prefix_len-le-length goes_on_comment c.args.bytes.now)

pub returns-in-Comment-clause-fed : goal.returns-in-Comment-clause-fed
returns-in-Comment-clause-fed g c = rw c.count_comment.ensures (comment_feeds g.M.TokenMachine.next c.args.self.now.lex c.args.self.now.machine c.args.bytes.now c.in-Comment.is)

pub returns-in-Comment-clause-waits : goal.returns-in-Comment-clause-waits
returns-in-Comment-clause-waits g c = rw c.count_comment.ensures (comment_waits g.M.TokenMachine.next c.args.self.now.lex c.args.self.now.machine c.args.bytes.now c.in-Comment.is)

pub returns-in_default-clause-fed : goal.returns-in_default-clause-fed
unfolding feeds
returns-in_default-clause-fed g c = refl

pub returns-in_default-clause-waits : goal.returns-in_default-clause-waits
returns-in_default-clause-waits g c = nothing_waits g.M.TokenMachine.next c.args.self.now.lex c.args.self.now.machine c.args.bytes.now
