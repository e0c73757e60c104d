-- The symbols and the keywords of the language, each with its text.
use Rattle.std.specs.Prelude.{ℕ, List, [], ◌∷◌, codes}
use Rattle.ivory_lexer.specs.declared.key.Key.{Key}
use Rattle.ivory_lexer.specs.declared.key.Key.TheVariants as key
use Rattle.ivory_lexer.specs.declared.mark.Mark.{Mark}
use Rattle.ivory_lexer.specs.declared.mark.Mark.TheVariants as mark

abbrev pub symbols : List (List ℕ × Mark)
symbols =
    (codes "(", mark.OpenParen) ∷
    (codes ")", mark.CloseParen) ∷
    (codes "{", mark.OpenBrace) ∷
    (codes "}", mark.CloseBrace) ∷
    (codes "[", mark.OpenBracket) ∷
    (codes "]", mark.CloseBracket) ∷
    (codes ",", mark.Comma) ∷
    (codes ";", mark.Semicolon) ∷
    (codes ":", mark.Colon) ∷
    (codes "=", mark.Assign) ∷
    (codes ".", mark.Dot) ∷
    (codes "->", mark.Arrow) ∷
    (codes "+", mark.Plus) ∷
    (codes "-", mark.Minus) ∷
    (codes "*", mark.Star) ∷
    (codes "/", mark.Slash) ∷
    (codes "%", mark.Percent) ∷
    (codes "+%", mark.PlusPercent) ∷
    (codes "-%", mark.MinusPercent) ∷
    (codes "*%", mark.StarPercent) ∷
    (codes "&", mark.Amp) ∷
    (codes "|", mark.Pipe) ∷
    (codes "^", mark.Caret) ∷
    (codes "~", mark.Tilde) ∷
    (codes "!", mark.Bang) ∷
    (codes "<<", mark.Shl) ∷
    (codes ">>", mark.Shr) ∷
    (codes "&&", mark.AmpAmp) ∷
    (codes "||", mark.PipePipe) ∷
    (codes "==", mark.EqualEqual) ∷
    (codes "!=", mark.BangEqual) ∷
    (codes "<", mark.Less) ∷
    (codes "<=", mark.LessEqual) ∷
    (codes ">", mark.Greater) ∷
    (codes ">=", mark.GreaterEqual) ∷
    (codes "?", mark.Question) ∷
    []

abbrev pub keywords : List (List ℕ × Key)
keywords =
    (codes "module", key.KwModule) ∷
    (codes "bitdata", key.KwBitdata) ∷
    (codes "struct", key.KwStruct) ∷
    (codes "const", key.KwConst) ∷
    (codes "area", key.KwArea) ∷
    (codes "import", key.KwImport) ∷
    (codes "export", key.KwExport) ∷
    (codes "proc", key.KwProc) ∷
    (codes "requires", key.KwRequires) ∷
    (codes "ensures", key.KwEnsures) ∷
    (codes "result", key.KwResult) ∷
    (codes "let", key.KwLet) ∷
    (codes "alloc", key.KwAlloc) ∷
    (codes "copy", key.KwCopy) ∷
    (codes "if", key.KwIf) ∷
    (codes "else", key.KwElse) ∷
    (codes "map", key.KwMap) ∷
    (codes "upto", key.KwUpto) ∷
    (codes "downto", key.KwDownto) ∷
    (codes "last", key.KwLast) ∷
    (codes "first", key.KwFirst) ∷
    (codes "forever", key.KwForever) ∷
    (codes "break", key.KwBreak) ∷
    (codes "return", key.KwReturn) ∷
    (codes "assert", key.KwAssert) ∷
    (codes "noalloc", key.KwNoalloc) ∷
    (codes "nobreak", key.KwNobreak) ∷
    (codes "noreturn", key.KwNoreturn) ∷
    (codes "true", key.KwTrue) ∷
    (codes "false", key.KwFalse) ∷
    (codes "bool", key.KwBool) ∷
    (codes "uint8_t", key.KwUint8t) ∷
    (codes "uint16_t", key.KwUint16t) ∷
    (codes "uint32_t", key.KwUint32t) ∷
    (codes "uint64_t", key.KwUint64t) ∷
    (codes "int8_t", key.KwInt8t) ∷
    (codes "int16_t", key.KwInt16t) ∷
    (codes "int32_t", key.KwInt32t) ∷
    (codes "int64_t", key.KwInt64t) ∷
    (codes "ix", key.KwIx) ∷
    (codes "ref", key.KwRef) ∷
    (codes "global", key.KwGlobal) ∷
    (codes "toix", key.KwToix) ∷
    (codes "wrapix", key.KwWrapix) ∷
    (codes "bits", key.KwBits) ∷
    (codes "raw", key.KwRaw) ∷
    (codes "set", key.KwSet) ∷
    (codes "with", key.KwWith) ∷
    (codes "as", key.KwAs) ∷
    (codes "ptr", key.KwPtr) ∷
    (codes "null", key.KwNull) ∷
    []
