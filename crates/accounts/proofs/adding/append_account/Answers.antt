use Rattle.accounts.proofs.Laying.{holding}
use Rattle.accounts.proofs.adding.append_account.Goals as goal

pub returns-then-not-is_code : goal.returns-then-not-is_code
returns-then-not-is_code c = search holding

pub returns-then-name-gt-MAX_NAME : goal.returns-then-name-gt-MAX_NAME
returns-then-name-gt-MAX_NAME c = search holding

pub returns-then-table-len : goal.returns-then-table-len
returns-then-table-len c = search holding

pub returns-then-table-len-2 : goal.returns-then-table-len-2
returns-then-table-len-2 c = search holding

pub returns : goal.returns
returns c = search holding
