use Rattle.std.proofs.Common.{◌≡◌, ◌+◌, [], ◌∷◌, ◌++◌, pos, get_or, take, sym, to_z, of_z, arith, rules}
use mir.Syntax.{w64}
use Rattle.std.proofs.lemmas.Result.{IfOk-weaker}
use Rattle.first_verdicts.specs.Meaning.{verdict_in}
use Rattle.first_verdicts.specs.Joining.{joined, asked}
use Rattle.first_verdicts.proofs.Joinings.{each_next, asked_none, tried_one, tried_more, tried_all, tried_enough, pushed_is, popped}
use Rattle.first_verdicts.proofs.verdicts.+search.Goals as goal

pub returns-then-left-eq0-clause-verdict : goal.returns-then-left-eq0-clause-verdict
returns-then-left-eq0-clause-verdict t c =
    IfOk-weaker c.with_call.result _ _
    (λ v is. tried_one c.args.question.now (verdict_in c.args.so_far) (verdict_in v) c.args.domain.now c.args.left c.args.arguments.now.items c.deref.result.now c.deref-then-left-eq0.result.now c.judge.result c.if-left-eq0.true c.deref.ensures.value c.deref-then-left-eq0.ensures.value c.judge.ensures is)
    c.with_call.ensures

pub loop-argument-init : goal.loop-argument-init
loop-argument-init t c = record {
  arguments = search rules;
  verdict = sym (asked_none c.args.question.now (verdict_in c.args.so_far));
}

pub returns-then-is_error-clause-verdict : goal.returns-then-is_error-clause-verdict
returns-then-is_error-clause-verdict t c =
    let value : to_z w64 (of_z w64 (get_or c.args.domain.now c.loop-argument.argument-index (pos 0))) ≡ get_or c.args.domain.now c.loop-argument.argument-index (pos 0) = search rules in
    let pushed : c.push.new.self.items ≡ c.args.arguments.now.items ++ get_or c.args.domain.now c.loop-argument.argument-index (pos 0) ∷ [] =
    pushed_is _ _ _ _ _ c.in_ok-push.ensures.items value c.loop-argument.invariant.arguments in
    let more : verdict_in c.in_ok-so_far.so_far ≡ joined (verdict_in c.args.so_far) (asked c.args.question.now (each_next c.args.domain.now c.args.left c.args.arguments.now.items (take (c.loop-argument.argument-index + 1) c.args.domain.now))) =
    tried_more c.args.question.now _ (verdict_in c.loop-argument.so_far) _ c.args.domain.now c.args.left c.loop-argument.argument-index c.args.arguments.now.items c.push.new.self.items (omega arith) pushed c.loop-argument.invariant.verdict c.in_ok-so_far.ensures.verdict in
    tried_enough c.args.question.now _ _ c.args.domain.now c.args.left (c.loop-argument.argument-index + 1) c.args.arguments.now.items (omega arith) (search rules) more

pub loop-argument-preserved : goal.loop-argument-preserved
loop-argument-preserved t c =
    let value : to_z w64 (of_z w64 (get_or c.args.domain.now c.loop-argument.argument-index (pos 0))) ≡ get_or c.args.domain.now c.loop-argument.argument-index (pos 0) = search rules in
    let pushed : c.push.new.self.items ≡ c.args.arguments.now.items ++ get_or c.args.domain.now c.loop-argument.argument-index (pos 0) ∷ [] =
    pushed_is _ _ _ _ _ c.in_ok-push.ensures.items value c.loop-argument.invariant.arguments in
    record {
      arguments = popped _ c.search.new.arguments.items c.push.new.self.items c.args.arguments.now.items _ _ c.pop.ensures.rest c.in_ok-so_far.ensures.arguments pushed c.search.new.arguments.ok.0;
      verdict = tried_more c.args.question.now _ (verdict_in c.loop-argument.so_far) _ c.args.domain.now c.args.left c.loop-argument.argument-index c.args.arguments.now.items c.push.new.self.items (omega arith) pushed c.loop-argument.invariant.verdict c.in_ok-so_far.ensures.verdict;
    }

pub returns-clause-verdict : goal.returns-clause-verdict
returns-clause-verdict t c =
    tried_all c.args.question.now _ _ c.args.domain.now c.args.left c.loop-argument.argument-index c.args.arguments.now.items (omega arith) (omega arith) c.loop-argument.invariant.verdict
