mod RowsByNumber
