use Rattle.book.proofs.Holding.{stack_holds}
use Rattle.book.proofs.slicing.Waiting.stack.Goals as goal

pub returns : goal.returns
returns c p q ps h =
    let n = c.len-parts.ensures.value in
    let earlier = c.deref.ensures.0 in
    let later = c.deref-2.ensures.0 in
    stack_holds p q ps c.args.self.now h _ _ _ _ (cc) (cc) c.deref_mut.ensures.value c.rotate_left.ensures.after c.pop.new.self c.pop.ensures.rest
