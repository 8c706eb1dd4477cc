use Rattle.std.proofs.Common.{replicate}
use Rattle.bio.specs.ContentLaws.{put-discards, put-outside}
use Rattle.bio.proofs.content.discards_put_zeroes.Goals as goal

pub returns-clause-within : goal.returns-clause-within
returns-clause-within c = put-discards

pub returns-clause-outside : goal.returns-clause-outside
returns-clause-outside c first count content sector outside =
    put-outside first count (λ _. replicate 512 0) content sector outside
