use Rattle.std.proofs.Common.{◌/◌, length}
use Rattle.bio.specs.Content.{sector_of}
use Rattle.bio.specs.ContentLaws.{HasBytes-put, put-outside, put-writes}
use Rattle.bio.proofs.content.writes_put_their_bytes.Goals as goal

pub returns-clause-bytes : goal.returns-clause-bytes
returns-clause-bytes c = HasBytes-put

pub returns-clause-within : goal.returns-clause-within
returns-clause-within c = put-writes

pub returns-clause-outside : goal.returns-clause-outside
returns-clause-outside c first bytes content sector outside =
    put-outside first (length bytes / 512) (sector_of bytes) content sector outside
