-- The call is made with eight empty result words, and its reply has room in the lent bytes.
use Rattle.std.proofs.Common.{refl}
use Rattle.rules.specs.Words.{zeros}
use Rattle.space.proofs.Small.{call-small}
use Rattle.session.proofs.Bounds.{reply-room, count_room, replied}
use Rattle.session.proofs.reply.Goals as goal

pub make-answer-requires : goal.make-answer-requires
unfolding zeros
make-answer-requires c = (c.requires.1, refl)

pub render_reply-requires : goal.render_reply-requires
render_reply-requires c =
    let m = c.make-answer.ensures in
    (count_room 0 _ _ _ _ m (call-small _ _), reply-room c.args.number _ _ _ _ m _ c.requires.0 c.requires.2 (call-small _ _))

pub returns : goal.returns
returns c = replied _ _ _ _ _ c.make-answer.ensures c.render_reply.ensures
