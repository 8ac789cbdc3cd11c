use Rattle.std.proofs.Common.{◌+◌, [], ◌∷◌, ◌++◌, ap, sym, ◌∙◌, append_assoc}
use Rattle.std.proofs.lemmas.List.{length_push}
use Rattle.std.proofs.lemmas.Bool.{iff_false}
use Rattle.pool_core.proofs.Lawful.{lawful}
use Rattle.pool_core.proofs.Runs.{ran_more, stopped_at}
use Rattle.pool_core.proofs.core_state.CoreState.run.Goals as goal

pub returns-then-not-enabled-clause-stopped : goal.returns-then-not-enabled-clause-stopped
returns-then-not-enabled-clause-stopped c =
    let ys = c.loop-event.yielded in
    let whole = ap (λ xs. ys ++ xs) (sym c.in-Some.ensures.steps.0) ∙ c.loop-event.invariant.whole in
    stopped_at c.args.self.now c.loop-event.self c.args.events.items ys c.in-Some.event _ c.loop-event.done whole c.loop-event.invariant.count c.loop-event.invariant.ran
    (iff_false c.enabled.ensures c.if-not-enabled.true)

pub loop-event-preserved : goal.loop-event-preserved
loop-event-preserved c =
    let ys = c.loop-event.yielded in
    let event = c.in-Some.event in
    let steps = c.in-Some.ensures.steps in
    record {
      can = tt;
      finite = tt;
      count = ap (λ n. n + 1) c.loop-event.invariant.count ∙ sym (length_push ys event);
      whole = append_assoc ys (event ∷ []) c.next.new.self.rest.items ∙ ap (λ xs. ys ++ xs) (sym steps.0) ∙ c.loop-event.invariant.whole;
      sound = c.in-Ok.ensures.sound;
      ran = ran_more c.args.self.now c.loop-event.self c.step.new.self ys event c.loop-event.invariant.ran
          (record { enabled = c.enabled.ensures.0 c.if-not-enabled.false; acts = c.in-Ok.ensures.acts });
    }

pub returns-then-not-enabled-clause-lawful : goal.returns-then-not-enabled-clause-lawful
returns-then-not-enabled-clause-lawful c = lawful c.loop-event.self c.loop-event.invariant.sound

pub returns-clause-lawful : goal.returns-clause-lawful
returns-clause-lawful c = lawful c.loop-event.self c.loop-event.invariant.sound
