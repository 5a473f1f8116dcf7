-- skip_text skips where the texts are as they are wanted.
-- The check does not find this goal alone, nor with the law named at the function.
use Rattle.skip.proofs.Skipping.{skips_text}
use Rattle.skip.proofs.skip_text.Goals as goal

pub returns : goal.returns
returns c = skips_text c.params_agree-agree.ensures c.skip_if.ensures
