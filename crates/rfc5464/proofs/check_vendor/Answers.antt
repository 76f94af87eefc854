use Rattle.rfc5464.proofs.Names.{vendors}
use Rattle.rfc5464.proofs.check_vendor.Goals as goal

pub returns-in-47 : goal.returns-in-47
returns-in-47 c = search vendors

pub returns-in_default : goal.returns-in_default
returns-in_default c = search vendors

pub returns-in_default-2 : goal.returns-in_default-2
returns-in_default-2 c = search vendors

pub returns-in_default-3 : goal.returns-in_default-3
returns-in_default-3 c = search vendors
