mod FileFaults
