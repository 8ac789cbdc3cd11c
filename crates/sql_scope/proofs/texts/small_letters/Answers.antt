use Rattle.std.proofs.Common.{◌≡◌, ap, ◌∙◌, map}
use Rattle.std.specs.Char.{to_ascii_lowercase}
use Rattle.sql_scope.specs.Texts.{folded}
use Rattle.sql_scope.proofs.Finding.{rewritten}
use Rattle.sql_scope.proofs.texts.small_letters.Goals as goal

pub returns : goal.returns
returns c =
    let name : c.in_ok-name.name.items ≡ c.args.name.now = c.in_ok-name.ensures.items in
    rewritten to_ascii_lowercase c.in_ok-name.name.len c.in_ok-name.name.items c.make_ascii_lowercase.new.self c.in_ok-name.name.ok.0
    (c.make_ascii_lowercase.ensures.after ∙ ap (map to_ascii_lowercase) c.as_mut_slice.ensures.value)
    ∙ ap folded name
