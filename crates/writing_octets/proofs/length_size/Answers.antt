use Rattle.std.proofs.Common.{length, ap, arith}
use Rattle.writing_octets.specs.Lengths.{length-one, length_two, length_three}
use Rattle.writing_octets.proofs.length_size.Goals as goal

pub returns-in-0-to-127-clause-is : goal.returns-in-0-to-127-clause-is
returns-in-0-to-127-clause-is c = ap length (length-one c.args.n (omega arith))

pub returns-in-128-to-255-clause-is : goal.returns-in-128-to-255-clause-is
returns-in-128-to-255-clause-is c = ap length (length_two c.args.n (omega arith) (omega arith))

pub returns-in_default-clause-is : goal.returns-in_default-clause-is
returns-in_default-clause-is c = ap length (length_three c.args.n (omega arith))
