-- `search_ordered::less_bit` meets its contract: the highest bit of the difference is set where the first number is the less. Assumes nothing.
use Rattle.search_ordered.proofs.Search.{bit_law}
use Rattle.search_ordered.proofs.less_bit.Goals as goal

pub returns : goal.returns
returns c = bit_law c.args.a c.args.b c.requires.0 c.requires.1
