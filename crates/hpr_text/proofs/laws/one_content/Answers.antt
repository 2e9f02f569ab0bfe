use Rattle.hpr_text.proofs.Contents.{one_content}
use Rattle.hpr_text.proofs.laws.one_content.Goals as goal

pub returns : goal.returns
returns c = one_content
