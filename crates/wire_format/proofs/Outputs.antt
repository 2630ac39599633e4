-- What is written for an input, line by line.
use Rattle.std.proofs.Common.{◌≡◌, ℕ, List, [], ◌∷◌, ◌++◌, map, Option, Some, None, refl, ap, ◌∙◌}
use Rattle.std.specs.List.{flat_map, cons_option}
use Rattle.std.proofs.lemmas.List.Concat.{flat_map-append}
use Rattle.isolation.specs.Pieces.{Given, Faulty, commands_of, piece_answers}
use Rattle.isolation.specs.World.{effect, world_after}
use Rattle.session_model.specs.Machine.{machine}
use Rattle.session_model.specs.Thread.{Settings}
use Rattle.session_model.specs.declared.line.Line.{Line}
use Rattle.wire_format.specs.Input.{Piece, pieces_of}
use Rattle.wire_format.specs.Text.{text_of_line}
use Rattle.wire_format.specs.Output.{World, Said, said_by, said_in, text_of_said, said_all, output, world_of, text_of_piece, world_after_piece}

-- the text of the lines of one command
pub text_of_said-said_by : (session : List ℕ) (lines : List Line) → text_of_said (map (said_by session) lines) ≡ flat_map (text_of_line session) lines
text_of_said-said_by session [] = refl
text_of_said-said_by session (line ∷ lines) = ap (λ rest. text_of_line session line ++ rest) (text_of_said-said_by session lines)

-- what is written for pieces, and the states after them
pub text_of_pieces : Settings → World → List Piece → List ℕ
text_of_pieces settings world pieces = text_of_said (flat_map said_in (piece_answers (machine settings) world pieces))

pub world_after_pieces : Settings → World → List Piece → World
world_after_pieces settings world pieces = world_after (machine settings) world (commands_of pieces)

pub text_of_pieces-cons : (settings : Settings) (world : World) (piece : Option Piece) (pieces : List Piece)
    → text_of_pieces settings world (cons_option piece pieces) ≡ text_of_piece settings world piece
    ++ text_of_pieces settings (world_after_piece settings world piece) pieces
unfolding text_of_pieces text_of_piece world_after_piece
text_of_pieces-cons settings world None pieces = refl
text_of_pieces-cons settings world (Some (Given given)) pieces =
    let answer = map (said_by given.session) (effect (machine settings) world given).lines in
    let later = flat_map said_in (piece_answers (machine settings) (world_after_piece settings world (Some (Given given))) pieces) in
    flat_map-append (λ (said : Said). said.text) answer later
    ∙ ap (λ first. first ++ text_of_pieces settings (world_after_piece settings world (Some (Given given))) pieces)
    (text_of_said-said_by given.session (effect (machine settings) world given).lines)
text_of_pieces-cons settings world (Some (Faulty fault)) pieces = refl

pub text_of_pieces-nothing : (settings : Settings) (world : World) → text_of_pieces settings world [] ≡ []
unfolding text_of_pieces
text_of_pieces-nothing settings world = refl

pub world_after_pieces-cons : (settings : Settings) (world : World) (piece : Option Piece) (pieces : List Piece)
    → world_after_pieces settings world (cons_option piece pieces) ≡ world_after_pieces settings (world_after_piece settings world piece) pieces
unfolding world_after_pieces world_after_piece
world_after_pieces-cons settings world None pieces = refl
world_after_pieces-cons settings world (Some (Given given)) pieces = refl
world_after_pieces-cons settings world (Some (Faulty fault)) pieces = refl

pub world_after_pieces-nothing : (settings : Settings) (world : World) → world_after_pieces settings world [] ≡ world
unfolding world_after_pieces
world_after_pieces-nothing settings world = refl

pub by_pieces : (settings : Settings) (world : World) (bytes : List ℕ) → output settings world bytes ≡ text_of_pieces settings world (pieces_of bytes)
unfolding output said_all text_of_pieces
by_pieces settings world bytes = refl

pub world_by_pieces : (settings : Settings) (world : World) (bytes : List ℕ)
    → world_of settings world bytes ≡ world_after_pieces settings world (pieces_of bytes)
unfolding world_of world_after_pieces
world_by_pieces settings world bytes = refl
