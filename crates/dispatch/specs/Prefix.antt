-- A prefix of the posts.
use Rattle.std.specs.Prelude.{◌≡◌, ◌++◌, List}
use Rattle.session_model.specs.declared.post.Post.{Post}

-- These posts are a prefix of those.
abbrev pub IsPrefix : List Post → List Post → Type 0
IsPrefix front whole = (rest : List Post) × (whole ≡ front ++ rest)
