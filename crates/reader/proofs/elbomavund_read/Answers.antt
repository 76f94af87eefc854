use Rattle.std.proofs.Common.{refl}
use Rattle.reader.proofs.Words.{reports}
use Rattle.reader.proofs.elbomavund_read.Goals as goal

pub returns-in-Accepted : goal.returns-in-Accepted
returns-in-Accepted c = reports _ c.in-Accepted.ensures refl c.put_numbers.ensures.value c.put_numbers.ensures.out_after

pub returns-in-Unfinished : goal.returns-in-Unfinished
returns-in-Unfinished c = reports _ c.in-Unfinished.ensures refl c.put_numbers-in-Unfinished.ensures.value c.put_numbers-in-Unfinished.ensures.out_after

pub returns-in-NotTheGrammar : goal.returns-in-NotTheGrammar
returns-in-NotTheGrammar c = reports _ c.in-NotTheGrammar.ensures refl c.put_numbers-in-NotTheGrammar.ensures.value c.put_numbers-in-NotTheGrammar.ensures.out_after

pub returns-in-TooDeep : goal.returns-in-TooDeep
returns-in-TooDeep c = reports _ c.in-TooDeep.ensures refl c.put_numbers-in-TooDeep.ensures.value c.put_numbers-in-TooDeep.ensures.out_after

pub returns-in-NoRoom : goal.returns-in-NoRoom
returns-in-NoRoom c = reports _ c.in-NoRoom.ensures refl c.put_numbers-in-NoRoom.ensures.value c.put_numbers-in-NoRoom.ensures.out_after

pub returns-in-UnknownRule : goal.returns-in-UnknownRule
returns-in-UnknownRule c = reports _ c.in-UnknownRule.ensures refl c.put_numbers-in-UnknownRule.ensures.value c.put_numbers-in-UnknownRule.ensures.out_after

pub returns-in-TooLong : goal.returns-in-TooLong
returns-in-TooLong c = reports _ c.in-TooLong.ensures refl c.put_numbers-in-TooLong.ensures.value c.put_numbers-in-TooLong.ensures.out_after
