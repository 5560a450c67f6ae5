-- The text of the input is put at the front.
use Rattle.std.proofs.Common.{rules}
use Rattle.program.proofs.Said.{say_nothing, say_text}
use Rattle.program.proofs.say.Goals as goal

pub returns-then-out-lt16384 : goal.returns-then-out-lt16384
returns-then-out-lt16384 c = say_nothing _ _ c.if-out-lt16384.true

pub returns : goal.returns
returns c = say_text c.if-out-lt16384.false c.input_text.ensures.prints (search rules)
