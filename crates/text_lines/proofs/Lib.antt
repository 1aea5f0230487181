mod Words
pub mod Splits
mod ScanLaws
mod ScannerLaws
pub mod TextLaws
mod ReaderLaws
mod ReadingLaws
pub mod WordLaws
pub mod WriteLaws
pub mod ListLaws
mod FirstFault
pub mod RoundTrip
mod ShortLineLaws
pub mod ParserLaws
mod LeadingNumbers
mod CutterLaws
