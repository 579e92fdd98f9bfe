-- The first byte tells.
use native.Mathlib.Omega.{arith}
use Rattle.laws.specs.Runs.{drop_here}
use Rattle.text_answers.proofs.Parts.{kind_empty, kind_remark, kind_answered, kind_other, kind_offer}
use Rattle.text_answers.proofs.kind_of.Goals as goal

pub returns-in_default : goal.returns-in_default
returns-in_default c = kind_empty _ _ (omega arith)

pub returns-in-35 : goal.returns-in-35
returns-in-35 c = kind_remark _ (drop_here c.args.line.now 0 0 c.in-len1-up.len_at_least) c.in-35.is

pub returns-in-61 : goal.returns-in-61
returns-in-61 c =
    kind_answered _ (drop_here c.args.line.now 0 0 c.in-len1-up.len_at_least) (λ h. omega arith) c.in-61.is

pub returns-in_default-first : goal.returns-in_default-first
returns-in_default-first c =
    kind_other _ (drop_here c.args.line.now 0 0 c.in-len1-up.len_at_least) (λ h. omega arith) c.if-byte-other.true

pub returns-in_default-2 : goal.returns-in_default-2
returns-in_default-2 c =
    kind_offer _ (drop_here c.args.line.now 0 0 c.in-len1-up.len_at_least) (λ h. omega arith) (λ h. grind arith) c.if-byte-other.false
